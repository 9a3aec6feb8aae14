-- What was read is what a panel shows (specs/Day, Quarter; calendar's specs/Moment).
--   two_digits_read    a number of two bytes is read from its two digits
--   day_text           a day is read from its own text
--   moment_text_lem        a text that has a quarter is the text of that quarter's day and hour, and of a minute of its quarter-hour
--   moment_text_even   it is the calendar's text of the quarter, where that minute is the quarter-hour's first
-- Assumes nothing.
use Prim.Native.Nat.{ℕ, suc, ◌+◌, ◌/◌, ◌%◌, ◌<◌, ◌≤◌}
use mathlib.Core.Path.{◌≡◌, refl, sym, ap, ◌∙◌}
use mathlib.Core.Bool.{Bool, true, false, cond, ◌&&◌, and-eq-true_iff}
use mathlib.Core.List.{List, [], ◌∷◌, ◌++◌}
use Rattle.std.proofs.Common.{Option, None, Some}
use native.Mathlib.Omega.{arith}
use borrow.Author.Tests.{leb-true, eqb-true}
use lib.Dec.{leb, ltb, eqb}
use lib.ListN.{length, get_or, drop, take-append-drop, length-drop}
use lib.Seq.{drop-cons, drop-drop, take_all, length-take-le}
use Rattle.lists.specs.Tests.{every}
use Rattle.model.specs.Values.{word_values}
use Rattle.text.specs.Ascii.{blank}
use Rattle.text.specs.Decimal.{zero_digit, nine_digit, is_digit, is_number, value_after, decimal}
use Rattle.calendar.specs.declared.Date.{Date}
use Rattle.calendar.specs.Calendar.{is_date, date_after, day_of, hour_of, minute_of}
use Rattle.calendar.specs.Moment.{two_digits, dash, colon, date_text, moment_text, date_bytes, moment_bytes}
use Rattle.question.specs.Number.{typed_number}
use Rattle.question.specs.Day.{part, day_form, date_of, day_by, day_in}
use Rattle.question.specs.Quarter.{moment_form}
use Rattle.question.proofs.MomentLaws.{IsMoment}

not_false_true : false ≡ true → ⊥
not_false_true e = let z : ◌≡◌ {A = ℕ} 0 1 = cc in omega arith

number_digits : (bs : List ℕ) (v : ℕ) → typed_number bs ≡ Some v → (is_number bs ≡ true) × (value_after 0 bs ≡ v)
unfolding typed_number decimal
number_digits bs v e = by_tests (is_number bs) (ltb (value_after 0 bs) word_values) refl e
  where
    by_tests : (s t : Bool) → is_number bs ≡ s → cond (s && t) (Some (value_after 0 bs)) None ≡ Some v
        → (is_number bs ≡ true) × (value_after 0 bs ≡ v)
    by_tests true true n p = (n, cc)
    by_tests true false n p = absurd (grind arith)
    by_tests false t n p = absurd (grind arith)

digit-range : (b : ℕ) → is_digit b ≡ true → (zero_digit ≤ b) × (b ≤ nine_digit)
digit-range b e =
    let both = (and-eq-true_iff (leb zero_digit b) (leb b nine_digit)).0 e in
    (leb-true zero_digit b both.0, leb-true b nine_digit both.1)

-- the first byte of a row of digits, and those after it
digits_cons : (b : ℕ) (bs : List ℕ) → every is_digit (b ∷ bs) ≡ true → (zero_digit ≤ b) × (b ≤ nine_digit) × (every is_digit bs ≡ true)
unfolding every
digits_cons b bs e =
    let both = (and-eq-true_iff (is_digit b) (every is_digit bs)).0 e in
    let range = digit-range b both.0 in
    (range.0, range.1, both.1)

same_two : {a b c d : ℕ} → a ≡ c → b ≡ d → ◌≡◌ {A = List ℕ} (a ∷ b ∷ []) (c ∷ d ∷ [])
same_two p q = cc

pub two_digits_read : (bs : List ℕ) (v : ℕ) → length bs ≡ 2 → typed_number bs ≡ Some v → bs ≡ two_digits v
unfolding is_number value_after
two_digits_read [] v h e = absurd (omega arith)
two_digits_read (a ∷ []) v h e = absurd (omega arith)
two_digits_read (a ∷ (b ∷ (x ∷ bs))) v h e = absurd (omega arith)
two_digits_read (a ∷ (b ∷ [])) v h e =
    let n = number_digits (a ∷ (b ∷ [])) v e in
    let first = digits_cons a (b ∷ []) n.0 in
    let second = digits_cons b [] first.2 in
    same_two (omega arith) (omega arith)

same_four : {a b c d p q r s : ℕ} → a ≡ p → b ≡ q → c ≡ r → d ≡ s → ◌≡◌ {A = List ℕ} (a ∷ b ∷ c ∷ d ∷ []) (p ∷ q ∷ r ∷ s ∷ [])
same_four i j k l = cc

four_digits_read : (bs : List ℕ) (v : ℕ) → length bs ≡ 4 → typed_number bs ≡ Some v → bs ≡ two_digits (v / 100) ++ two_digits (v % 100)
unfolding is_number value_after
four_digits_read [] v h e = absurd (omega arith)
four_digits_read (a ∷ []) v h e = absurd (omega arith)
four_digits_read (a ∷ (b ∷ [])) v h e = absurd (omega arith)
four_digits_read (a ∷ (b ∷ (c ∷ []))) v h e = absurd (omega arith)
four_digits_read (a ∷ (b ∷ (c ∷ (d ∷ (x ∷ bs))))) v h e = absurd (omega arith)
four_digits_read (a ∷ (b ∷ (c ∷ (d ∷ [])))) v h e =
    let n = number_digits (a ∷ (b ∷ (c ∷ (d ∷ [])))) v e in
    let first = digits_cons a (b ∷ (c ∷ (d ∷ []))) n.0 in
    let second = digits_cons b (c ∷ (d ∷ [])) first.2 in
    let third = digits_cons c (d ∷ []) second.2 in
    let fourth = digits_cons d [] third.2 in
    same_four (omega arith) (omega arith) (omega arith) (omega arith)

-- a piece of a text, the byte that ends it, and what comes after
piece : (k n : ℕ) (bs : List ℕ) → k + n < length bs → drop k bs ≡ part k n bs ++ get_or bs (k + n) 0 ∷ drop (suc (k + n)) bs
piece k n bs h = sym (take-append-drop n (drop k bs)) ∙ ap (λ r. part k n bs ++ r) (drop-drop n k bs ∙ drop-cons bs (k + n) 0 h)

last_piece : (k n : ℕ) (bs : List ℕ) → length bs ≡ k + n → drop k bs ≡ part k n bs
last_piece k n bs h = sym (take_all n (drop k bs) (omega (arith, length-drop k bs)))

part_length : (k n : ℕ) (bs : List ℕ) → k + n ≤ length bs → length (part k n bs) ≡ n
part_length k n bs h = length-take-le n (drop k bs) (omega (arith, length-drop k bs))

day_pieces : (bs : List ℕ) → length bs ≡ 10 → bs ≡ part 0 4 bs ++ get_or bs 4 0 ∷ (part 5 2 bs ++ get_or bs 7 0 ∷ part 8 2 bs)
day_pieces bs h =
    piece 0 4 bs (omega arith)
    ∙ ap (λ r. part 0 4 bs ++ get_or bs 4 0 ∷ r) (piece 5 2 bs (omega arith) ∙ ap (λ r. part 5 2 bs ++ get_or bs 7 0 ∷ r) (last_piece 8 2 bs (omega arith)))

moment_pieces : (bs : List ℕ) → length bs ≡ 16 → bs ≡ part 0 10 bs ++ get_or bs 10 0 ∷ (part 11 2 bs ++ get_or bs 13 0 ∷ part 14 2 bs)
moment_pieces bs h =
    piece 0 10 bs (omega arith)
    ∙ ap (λ r. part 0 10 bs ++ get_or bs 10 0 ∷ r)
    (piece 11 2 bs (omega arith) ∙ ap (λ r. part 11 2 bs ++ get_or bs 13 0 ∷ r) (last_piece 14 2 bs (omega arith)))

joined : {p q r s t u : List ℕ} {a b c d : ℕ} → p ≡ s → a ≡ c → q ≡ t → b ≡ d → r ≡ u → p ++ a ∷ (q ++ b ∷ r) ≡ s ++ c ∷ (t ++ d ∷ u)
joined x y z v w = cc

-- the three tests of a form
record Form (bs : List ℕ) (bytes i j x y : ℕ) : Type 0 where
  is_long : length bs ≡ bytes
  is_first : get_or bs i 0 ≡ x
  is_second : get_or bs j 0 ≡ y

form : (bs : List ℕ) (bytes i j x y : ℕ) → (eqb (length bs) bytes && eqb (get_or bs i 0) x && eqb (get_or bs j 0) y) ≡ true → Form bs bytes i j x y
form bs bytes i j x y e =
    let a = eqb (length bs) bytes in
    let b = eqb (get_or bs i 0) x in
    let two = (and-eq-true_iff (a && b) (eqb (get_or bs j 0) y)).0 e in
    let one = (and-eq-true_iff a b).0 two.0 in
    record {
      is_long = eqb-true (length bs) bytes one.0;
      is_first = eqb-true (get_or bs i 0) x one.1;
      is_second = eqb-true (get_or bs j 0) y two.1;
    }

day_form_lem : (bs : List ℕ) → day_form bs ≡ true → Form bs date_bytes 4 7 dash dash
unfolding day_form
day_form_lem bs e = form bs date_bytes 4 7 dash dash e

moment_form_lem : (bs : List ℕ) → moment_form bs ≡ true → Form bs moment_bytes 10 13 blank colon
unfolding moment_form
moment_form_lem bs e = form bs moment_bytes 10 13 blank colon e

date_is : (y m d : ℕ) (to : Date) → date_of y m d ≡ Some to → record { year = y; month = m; day = d } ≡ to
unfolding date_of
date_is y m d to e = by_test (is_date y m d) e
  where
    by_test : (t : Bool) → cond t (Some (record { year = y; month = m; day = d })) None ≡ Some to → record { year = y; month = m; day = d } ≡ to
    by_test true p = cc
    by_test false p = absurd (grind arith)

pub day_text : (bs : List ℕ) (d : Date) → day_in bs ≡ Some d → bs ≡ date_text d
unfolding day_in
day_text bs to e = go (day_form bs) refl (typed_number (part 0 4 bs)) refl (typed_number (part 5 2 bs)) refl (typed_number (part 8 2 bs)) refl e
  where
    go : (t : Bool) → day_form bs ≡ t → (y : Option ℕ) → typed_number (part 0 4 bs) ≡ y → (m : Option ℕ) → typed_number (part 5 2 bs) ≡ m
        → (d : Option ℕ) → typed_number (part 8 2 bs) ≡ d → cond t (day_by y m d) None ≡ Some to → bs ≡ date_text to
    go false f y i m j d k p = absurd (grind arith)
    go true f None i m j d k p = absurd (grind arith)
    go true f (Some y) i None j d k p = absurd (grind arith)
    go true f (Some y) i (Some m) j None k p = absurd (grind arith)
    go true f (Some y) i (Some m) j (Some d) k p =
        let h = day_form_lem bs f in
        let year = four_digits_read (part 0 4 bs) y (part_length 0 4 bs (omega (arith, h.is_long))) i in
        let month = two_digits_read (part 5 2 bs) m (part_length 5 2 bs (omega (arith, h.is_long))) j in
        let date = two_digits_read (part 8 2 bs) d (part_length 8 2 bs (omega (arith, h.is_long))) k in
        day_pieces bs h.is_long ∙ joined year h.is_first month h.is_second date ∙ ap date_text (date_is y m d to p)

pub moment_text_lem : (base : Date) (q : ℕ) (bs : List ℕ) (m : IsMoment base q bs)
    → bs ≡ date_text (date_after base (day_of q)) ++ blank ∷ two_digits (hour_of q) ++ colon ∷ two_digits m.minute
moment_text_lem base q bs m =
    let h = moment_form_lem bs m.has-form in
    let date = day_text (part 0 10 bs) (date_after base (day_of q)) m.is_day in
    let hour = two_digits_read (part 11 2 bs) (hour_of q) (part_length 11 2 bs (omega (arith, h.is_long))) m.is_hour in
    let minute = two_digits_read (part 14 2 bs) m.minute (part_length 14 2 bs (omega (arith, h.is_long))) m.is_minute in
    moment_pieces bs h.is_long ∙ joined date h.is_first hour h.is_second minute

pub moment_text_even : (base : Date) (q : ℕ) (bs : List ℕ) (m : IsMoment base q bs) → m.minute ≡ minute_of q → bs ≡ moment_text base q
moment_text_even base q bs m e = rw e at (moment_text_lem base q bs m)
