-- The turns of taking a line, on plain values.
-- Assumes nothing.
use Prim.Native.Nat.{ℕ, zero, suc, ◌+◌, ◌≤◌, ◌<◌, min}
use mathlib.Core.Path.{◌≡◌, refl, sym, ap, ◌∙◌}
use mathlib.Core.Bool.{true, false}
use mathlib.Core.List.{List, [], ◌∷◌, ◌++◌, append-nil}
use native.Mathlib.Numerals.{add-one}
use native.Mathlib.Omega.{arith}
use lib.ListN.{length, take, get_or, length-append, length-take}
use lib.Seq.{length-take-le, take_all, append_snoc, slice_empty, slice-cons}
use Rattle.lists.specs.Tests.{any}
use Rattle.console.specs.Newline.{is_newline, before_newline}
use Rattle.console.specs.Taken.{unread, joined, Keeps, Taking, Takes}
use Rattle.console.proofs.NewlineLaws.{before_other, any_other, before_newline_lem, any-newline}

-- what is cut to the room and then followed by more, cut again, is all of it, cut
take_cut : (k : ℕ) (xs ys : List ℕ) → take k (take k xs ++ ys) ≡ take k (xs ++ ys)
take_cut zero xs ys = refl
take_cut (suc k) [] ys = refl
take_cut (suc k) (x ∷ xs) ys = ap (λ (l : List ℕ). x ∷ l) (take_cut k xs ys)

joined_byte : (k b : ℕ) (kept xs more : List ℕ) → kept ≡ take k (xs ++ (b ∷ [])) → take k (kept ++ more) ≡ take k (xs ++ (b ∷ more))
joined_byte k b kept xs more e = rw e (take_cut k (xs ++ (b ∷ [])) more ∙ ap (take k) (append_snoc xs b more))

-- the line after some turns, with what is still to be taken, is the line after all of them
pub record Ahead (input : List ℕ) (at end : ℕ) (line : List ℕ) (n : ℕ) (so_far : List ℕ) (m i : ℕ) : Type 0 where
  pub within : i ≤ end
  pub room : m ≤ length line
  pub long : length so_far ≡ length line
  pub newline : any is_newline (unread input i end) ≡ any is_newline (unread input at end)
  pub place : i + length (before_newline (unread input i end)) ≡ at + length (before_newline (unread input at end))
  pub bytes : take (length line) (take m so_far ++ before_newline (unread input i end)) ≡ joined line n (before_newline (unread input at end))

module _ (input : List ℕ) (at end : ℕ) (line : List ℕ) (n : ℕ) where
  pub ahead_start : Taking input at end line n → Ahead input at end line n line n at
  ahead_start t =
      record { within = t.ordered; room = t.room; long = refl; newline = refl; place = refl; bytes = refl }

  module _ (read : end ≤ length input) (so_far : List ℕ) (m i : ℕ) (a : Ahead input at end line n so_far m i) where
    next : i < end → unread input i end ≡ get_or input i 0 ∷ unread input (suc i) end
    next h = slice-cons i end input 0 h read

    pub ahead_byte : i < end → is_newline (get_or input i 0) ≡ false → (after : List ℕ) (r : ℕ) → length after ≡ length so_far
        → Keeps so_far m (get_or input i 0) after r → Ahead input at end line n after r (i + 1)
    ahead_byte h e after r same k =
        let b = get_or input i 0 in
        let rest = unread input (suc i) end in
        let long : length after ≡ length line = same ∙ a.long in
        let kept : take r after ≡ take (length line) (take m so_far ++ (b ∷ [])) = k.bytes ∙ ap (λ (z : ℕ). take z (take m so_far ++ (b ∷ []))) a.long in
        let before = ap before_newline (next h) ∙ before_other b rest e in
        let found = ap (any is_newline) (next h) ∙ any_other b rest e in
        record {
          within = omega arith;
          room = omega (arith, k.room, a.long);
          long = long;
          newline = rw add-one (sym found ∙ a.newline);
          place = rw add-one (omega (arith, ap length before, a.place));
          bytes = rw add-one (joined_byte (length line) b (take r after) (take m so_far) (before_newline rest) kept
              ∙ ap (λ (l : List ℕ). take (length line) (take m so_far ++ l)) (sym before)
              ∙ a.bytes);
        }

    -- all was taken that the line has room for
    taken : before_newline (unread input i end) ≡ [] → take m so_far ≡ joined line n (before_newline (unread input at end))
    taken e =
        let short = length-take m so_far in
        let end = ap (λ (l : List ℕ). take m so_far ++ l) e ∙ append-nil (take m so_far) in
        sym (take_all (length line) (take m so_far) (omega arith)) ∙ ap (take (length line)) (sym end) ∙ a.bytes

    counted : n ≤ length line → take m so_far ≡ joined line n (before_newline (unread input at end))
        → m ≡ min (length line) (n + length (before_newline (unread input at end)))
    counted room e =
        let piece = before_newline (unread input at end) in
        let front = length-take-le n line room in
        let all = length-append (take n line) piece in
        sym (length-take-le m so_far (omega arith)) ∙ ap length e ∙ length-take (length line) (take n line ++ piece)
        ∙ ap (min (length line)) (all ∙ ap (λ (z : ℕ). z + length piece) front)

    pub takes-newline : n ≤ length line → i < end → is_newline (get_or input i 0) ≡ true
        → Takes input at end line n so_far (record { at = i + 1; held = m; whole = true })
    takes-newline room h e =
        let b = get_or input i 0 in
        let rest = unread input (suc i) end in
        let before = ap before_newline (next h) ∙ before_newline_lem b rest e in
        let bytes = taken before in
        record {
          whole = sym (ap (any is_newline) (next h) ∙ any-newline b rest e) ∙ a.newline;
          place = omega (arith, ap length before, a.place);
          held = counted room bytes;
          bytes = bytes;
        }

    pub takes-end : n ≤ length line → end ≤ i → Takes input at end line n so_far (record { at = end; held = m; whole = false })
    unfolding any before_newline
    takes-end room h =
        let e : i ≡ end = omega arith in
        let none : unread input i end ≡ [] = rw e (slice_empty end input) in
        let before = ap before_newline none in
        let bytes = taken before in
        record {
          whole = sym (ap (any is_newline) none) ∙ a.newline;
          place = refl;
          held = counted room bytes;
          bytes = bytes;
        }
