-- `matching::theirs_at` meets its contract. Assumes nothing.
use mathlib.Core.Path.{sym}
use native.Mathlib.Omega.{arith}
use Rattle.std.proofs.lemmas.Option.{slice_get_past}
use Rattle.grants_file.proofs.FileLaws.{length-grants_in}
use Rattle.grants_file.proofs.GrantSteps.{accepted-whole}
use Rattle.grants_file.specs.File.{grants_in}
use Rattle.file_calls.proofs.DifferenceLaws.{get_here}
use Rattle.file_calls.proofs.matching.theirs_at.Goals as goal

pub total_in-requires : goal.total_in-requires
total_in-requires c = (accepted-whole _ c.requires).some

pub returns-then-total_in-i : goal.returns-then-total_in-i
returns-then-total_in-i c = sym (slice_get_past (grants_in c.args.file.now) _ (omega (arith, length-grants_in c.args.file.now)))

pub returns : goal.returns
returns c = sym (get_here (grants_in c.args.file.now) _ c.grant_in.ensures)
