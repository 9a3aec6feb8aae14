-- What a pulled line keeps to, from what was taken for it.
--   safe-taken      with what is left behind the line's newline
--   takes_go_on     bytes that were held stay held, from one taking to the next
--   pulls_taken     where the buffer has the whole line
-- Assumes nothing.
use Prim.Native.Nat.{ℕ, ◌+◌, ◌≤◌, min}
use mathlib.Core.Path.{◌≡◌, refl, sym, ap, ◌∙◌}
use mathlib.Core.Bool.{true}
use mathlib.Core.List.{List, ◌++◌}
use native.Mathlib.Omega.{arith}
use lib.ListN.{length, take}
use lib.Seq.{length-take-le, length-slice, take-take, take-append-le}
use Rattle.std.proofs.Common.{Some, Ok}
use Rattle.console.specs.declared.lines.Cursor.{Cursor}
use Rattle.console.specs.declared.lines.Taken.{Taken}
use Rattle.console.specs.Newline.{before_newline}
use Rattle.console.specs.Taken.{unread, Taking, Takes}
use Rattle.console.specs.Pulled.{Safe, Pulls}
use Rattle.console.proofs.NewlineLaws.{newline-after}

module _ (input : List ℕ) (at end : ℕ) (line : List ℕ) (n : ℕ) (after : List ℕ) (r : Taken)
    (fit : Taking input at end line n) (long : length after ≡ length line) (t : Takes input at end line n after r) (whole : r.whole ≡ true) where
  -- the newline is one of the bytes that were read
  within : r.at ≤ end
  within =
      let rest = unread input at end in
      let found = newline-after rest (sym t.whole ∙ whole) in
      let place : r.at ≡ at + length (before_newline rest) + 1 = rw whole at t.place in
      omega (arith, length-slice at end input fit.read, fit.ordered)

  pub safe-taken : Safe input after (record { cursor = record { at = r.at; end = end }; line = Ok (Some r.held); ended = true })
  safe-taken =
      let room : r.held ≤ length after = omega (arith, t.held) in
      record {
        held = (room, sym (length-take-le r.held after room));
        cursor = record { ordered = within; read = fit.read };
      }

-- what is held before bytes are taken behind it stays where it is
pub takes-keeps : (input : List ℕ) (at end : ℕ) (line : List ℕ) (k n : ℕ) (after : List ℕ) (r : Taken) → k ≤ n → n ≤ length line
    → Takes input at end line n after r → (k ≤ r.held) × (take k after ≡ take k line)
takes-keeps input at end line k n after r h room t =
    let piece = before_newline (unread input at end) in
    let more : k ≤ r.held = omega (arith, t.held) in
    let whole : k ≤ length line = omega arith in
    let held : k ≤ length (take n line) = rw (length-take-le n line room) h in (
      more,
      sym (take-take k r.held after more)
          ∙ ap (take k) t.bytes
          ∙ take-take k (length line) (take n line ++ piece) whole
          ∙ take-append-le k (take n line) piece held
          ∙ take-take k n line h,
    )

pub takes_go_on : (input : List ℕ) (at end : ℕ) (line₀ line : List ℕ) (k n : ℕ) (after : List ℕ) (r : Taken) → k ≤ n → n ≤ length line
    → take k line ≡ take k line₀ → Takes input at end line n after r → (k ≤ r.held) × (take k after ≡ take k line₀)
takes_go_on input at end line₀ line k n after r h room kept t =
    let s = takes-keeps input at end line k n after r h room t in
    (s.0, s.1 ∙ kept)

pub pulls_taken : (input line : List ℕ) (c : Cursor) (after : List ℕ) (t : Taken) → Taking input c.at c.end line 0 → length after ≡ length line
    → Takes input c.at c.end line 0 after t → t.whole ≡ true
    → Pulls input line c input after (record { cursor = record { at = t.at; end = c.end }; line = Ok (Some t.held); ended = true })
pulls_taken input line c after t fit long takes whole =
    let held : t.held ≡ min (length line) (length (before_newline (unread input c.at c.end))) = omega (arith, takes.held) in
    record {
      safe = safe-taken input c.at c.end line 0 after t fit long takes whole;
      begins = λ w. (omega arith, rw (← held) takes.bytes);
      buffered = λ w e.
          record {
            unchanged = refl;
            ended = refl;
            held = ap (λ (n : ℕ). Ok (Some n)) held;
            bytes = rw (← held) takes.bytes;
            place = rw whole at takes.place;
            end = refl;
          };
    }
