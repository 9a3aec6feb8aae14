-- What `o.ok_or(f)?` tells: o holds something where the code goes on, and the refusal is f where it doesn't.
--   some_from_ok      the code goes on with what o holds
--   none_from_err     it stops: o holds nothing
--   refusal_is        and answers f
-- Assumes nothing.
use mathlib.Core.Path.{◌≡◌, ap, ◌∙◌}
use Rattle.std.proofs.Common.{Option, None, Some, Result, Ok, Err, arith}
use Rattle.std.specs.Prelude.{ok_or}
use Rattle.std.specs.Result.{result_ok}

module _ {T E : Type 0} where
  pub some_from_ok : {o : Option T} {r : Result T E} {x : T} → o ≡ result_ok r → r ≡ Ok x → o ≡ Some x
  some_from_ok e is = e ∙ ap (λ (r : Result T E). result_ok r) is

  pub none_from_err : {o : Option T} {r : Result T E} {d : E} → o ≡ result_ok r → r ≡ Err d → o ≡ None
  none_from_err e is = e ∙ ap (λ (r : Result T E). result_ok r) is

  pub refusal_is : (o : Option T) (f : E) {r : Result T E} {d : E} → r ≡ ok_or o f → r ≡ Err d → d ≡ f
  refusal_is None f e is = grind arith
  refusal_is (Some y) f e is = grind arith
