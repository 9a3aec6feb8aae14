-- `list::write_numbers` meets its contract: the numbers are copied, then sorted. Assumes nothing.
use Prim.Native.Nat.{ℕ}
use mathlib.Core.Path.{ap, ◌∙◌}
use mathlib.Core.List.{List}
use Rattle.lists.specs.Sort.{sort_by}
use Rattle.queries.proofs.list.write_numbers.Goals as goal

pub returns : goal.returns
returns c =
    c.sort_numbers.ensures ∙ ap (λ (xs : List ℕ). sort_by (λ (n : ℕ). n) xs) c.copy_numbers.ensures
