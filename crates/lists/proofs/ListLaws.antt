-- Laws of lists joined from parts, of parts taken out again, and of runs.
--   drop-take, take_min                a rest of a front, and a front of a front
--   map_same, flat_map_same             functions that agree on the elements make the same list
--   map_inverse                        a function undone on each element
--   map-take, map-drop                 a front and a rest of a made list
--   flat_map_append, flat_map_map, map_flat_map, length_flat_map
--   mem_flat_map                        an element of the joined list is in the part of one element
--   take_mem, drop_mem                 an element of a front, or of a rest, is in the list
--   count_from-append, count_from_suc    a run in two, and a run of successors
--   count_from_mem                      what a run holds
--   elements_joined                    a part of a list, element by element
--   parts-joined                       the parts of one width, joined, are the list
--   part_flat_map                       a part of a joined list, where the parts before it are of one width, and it is too unless it is the last
--   parts_flat_map                      all parts of a joined list, where every part is of one width
--   same_numbers_true, same_numbers_same lists that the test finds equal are equal, and it finds a list equal to itself
--   every_zero, zero_every             a list passes as zeros exactly if it is zeros
--   length-take-replicate              a front of a repeat is as long as asked for
-- Assumes nothing.
use Prim.Native.Nat.{ℕ, zero, suc, ◌+◌, ◌-◌, ◌*◌, ◌≤◌, ◌<◌, min}
use mathlib.Core.Path.{◌≡◌, refl, sym, ap, ap₂, ◌∙◌}
use mathlib.Core.Logic.{◌⊎◌, inl, inr}
use mathlib.Core.Bool.{true, and-eq-true_iff, false≢true}
use mathlib.Core.List.Memᴰ
use mathlib.Core.List.{List, [], ◌∷◌, ◌++◌, map, flat_map, append-nil, append_assoc, map-map, map-append, Memᴰ}
use native.Mathlib.Nat.{mul-suc, mul-zero, add-zero, zero-add, add-suc, suc-add, add_comm}
use native.Mathlib.Omega.{arith}
use native.Mathlib.Decide.{dec_le}
use borrow.Author.Tests.{eqb-true, eq-eqb}
use lib.Dec.{eqb}
use lib.ListN.{replicate, length, get_or, take, drop, length-append, length-take, length-replicate}
use lib.Seq.{length-take-le, drop-cons, take-nil, take-take, take_all, take-add, drop-drop, drop_at, take_at}
use Rattle.lists.specs.Tests.{every, same_numbers}
use Rattle.lists.specs.Ranges.{count_from}
use Rattle.lists.proofs.RangeLaws.{length-count_from}

module _ {A : Type 0} where
  pub drop-take : (n m : ℕ) (l : List A) → drop n (take m l) ≡ take (m - n) (drop n l)
  drop-take zero m l = let whole : m - 0 ≡ m = omega arith in rw whole
  drop-take (suc n) zero l = let none : 0 - suc n ≡ 0 = omega arith in rw none
  drop-take (suc n) (suc m) [] = sym (take-nil (suc m - suc n))
  drop-take (suc n) (suc m) (x ∷ l) = let same : suc m - suc n ≡ m - n = omega arith in rw same (drop-take n m l)

  pub take_min : (a b : ℕ) (l : List A) → take a (take b l) ≡ take (min a b) l
  take_min a b l = go (dec_le a b)
    where
      go : Dec (a ≤ b) → take a (take b l) ≡ take (min a b) l
      go (yes h) = let least : min a b ≡ a = omega arith in take-take a b l h ∙ rw least
      go (no n) =
          let least : min a b ≡ b = omega arith in
          let size : length (take b l) ≡ min b (length l) = length-take b l in
          take_all a (take b l) (omega (arith, size)) ∙ rw least

pub map_same : {A B : Type 0} (f g : A → B) (xs : List A) → ((x : A) → Memᴰ x xs → f x ≡ g x) → map f xs ≡ map g xs
map_same f g [] h = refl
map_same f g (x ∷ xs) h = ap₂ ◌∷◌ (h x (Memᴰ.head refl)) (map_same f g xs (λ y m. h y (Memᴰ.tail m)))

pub map_inverse : {A B : Type 0} (f : A → B) (g : B → A) (xs : List A) → ((x : A) → Memᴰ x xs → g (f x) ≡ x) → map g (map f xs) ≡ xs
map_inverse f g [] h = refl
map_inverse f g (x ∷ xs) h = ap₂ ◌∷◌ (h x (Memᴰ.head refl)) (map_inverse f g xs (λ y m. h y (Memᴰ.tail m)))

module _ {A B : Type 0} where
  pub map-take : (f : A → B) (n : ℕ) (xs : List A) → map f (take n xs) ≡ take n (map f xs)
  map-take f zero xs = refl
  map-take f (suc n) [] = refl
  map-take f (suc n) (x ∷ xs) = ap (λ (l : List B). f x ∷ l) (map-take f n xs)

  pub map-drop : (f : A → B) (n : ℕ) (xs : List A) → map f (drop n xs) ≡ drop n (map f xs)
  map-drop f zero xs = refl
  map-drop f (suc n) [] = refl
  map-drop f (suc n) (x ∷ xs) = map-drop f n xs

  pub flat_map_same : (f g : A → List B) (xs : List A) → ((x : A) → Memᴰ x xs → f x ≡ g x) → flat_map f xs ≡ flat_map g xs
  unfolding flat_map
  flat_map_same f g [] h = refl
  flat_map_same f g (x ∷ xs) h = ap₂ ◌++◌ (h x (Memᴰ.head refl)) (flat_map_same f g xs (λ y m. h y (Memᴰ.tail m)))

  pub flat_map_append : (f : A → List B) (xs ys : List A) → flat_map f (xs ++ ys) ≡ flat_map f xs ++ flat_map f ys
  unfolding flat_map
  flat_map_append f [] ys = refl
  flat_map_append f (x ∷ xs) ys = rw (flat_map_append f xs ys, append_assoc)

  pub flat_map_map : {C : Type 0} (f : A → List B) (g : C → A) (xs : List C) → flat_map f (map g xs) ≡ flat_map (λ x. f (g x)) xs
  unfolding flat_map
  flat_map_map f g [] = refl
  flat_map_map f g (x ∷ xs) = rw (flat_map_map f g xs)

  pub map_flat_map : {C : Type 0} (g : B → C) (f : A → List B) (xs : List A) → map g (flat_map f xs) ≡ flat_map (λ x. map g (f x)) xs
  unfolding flat_map
  map_flat_map g f [] = refl
  map_flat_map g f (x ∷ xs) = rw (map-append, map_flat_map g f xs)

  pub length_flat_map : (f : A → List B) (w : ℕ) (xs : List A) → ((x : A) → Memᴰ x xs → length (f x) ≡ w) → length (flat_map f xs) ≡ w * length xs
  unfolding flat_map
  length_flat_map f w [] h = sym (mul-zero w)
  length_flat_map f w (x ∷ xs) h =
      rw (length-append, h x (Memᴰ.head refl), length_flat_map f w xs (λ y m. h y (Memᴰ.tail m)), mul-suc) (omega arith)

  pub mem_flat_map : (f : A → List B) (xs : List A) (y : B) → Memᴰ y (flat_map f xs) → (x : A) × Memᴰ x xs × Memᴰ y (f x)
  unfolding flat_map
  mem_flat_map f [] y m = absurd (Memᴰ.not-nil m)
  mem_flat_map f (x ∷ xs) y m = go (Memᴰ.append_cases (f x) m) (mem_flat_map f xs y)
    where
      go : Memᴰ y (f x) ⊎ Memᴰ y (flat_map f xs) → (Memᴰ y (flat_map f xs) → (z : A) × Memᴰ z xs × Memᴰ y (f z))
          → (z : A) × Memᴰ z (x ∷ xs) × Memᴰ y (f z)
      go (inl i) rest = (x, Memᴰ.head refl, i)
      go (inr i) rest = let r = rest i in (r.0, Memᴰ.tail r.1, r.2)

pub take_mem : {A : Type 0} (n : ℕ) (xs : List A) (x : A) → Memᴰ x (take n xs) → Memᴰ x xs
take_mem {A = A} zero xs x x3 = elim x3 [ ]
take_mem {A = A} (suc n) [] x x6 = elim x6 [ ]
take_mem (suc n) (y ∷ ys) x (Memᴰ.head q) = Memᴰ.head q
take_mem (suc n) (y ∷ ys) x (Memᴰ.tail m) = Memᴰ.tail (take_mem n ys x m)

pub drop_mem : {A : Type 0} (n : ℕ) (xs : List A) (x : A) → Memᴰ x (drop n xs) → Memᴰ x xs
drop_mem {A = A} (suc n) [] x m = elim m [ ]
drop_mem zero xs x m = m
drop_mem (suc n) (y ∷ ys) x m = Memᴰ.tail (drop_mem n ys x m)

pub count_from-append : (k m n : ℕ) → count_from k (m + n) ≡ count_from k m ++ count_from (k + m) n
unfolding count_from
count_from-append k zero n = rw (zero-add, add-zero)
count_from-append k (suc m) n = rw (suc-add, add-suc) (ap (λ (l : List ℕ). k ∷ l) (count_from-append (suc k) m n ∙ rw suc-add))

pub count_from_suc : (k n : ℕ) → count_from (suc k) n ≡ map suc (count_from k n)
unfolding count_from
count_from_suc k zero = refl
count_from_suc k (suc n) = ap (λ (l : List ℕ). suc k ∷ l) (count_from_suc (suc k) n)

pub count_from_mem : (k n j : ℕ) → Memᴰ j (count_from k n) → (k ≤ j) × (j < k + n)
unfolding count_from
count_from_mem k zero j x' = elim x' [ ]
count_from_mem k (suc n) j (Memᴰ.head q) = omega arith
count_from_mem k (suc n) j (Memᴰ.tail m) = let both = count_from_mem (suc k) n j m in omega arith

module _ {A : Type 0} where
  pub elements_joined : (xs : List A) (k n : ℕ) (d : A) → k + n ≤ length xs → take n (drop k xs) ≡ map (λ i. get_or xs i d) (count_from k n)
  unfolding count_from
  elements_joined xs k zero d h = refl
  elements_joined xs k (suc n) d h =
      rw (drop-cons xs k d (omega arith)) (ap (λ (l : List A). get_or xs k d ∷ l) (elements_joined xs (suc k) n d (omega arith)))

  pub parts-joined : (w k n : ℕ) (xs : List A) → flat_map (λ i. take w (drop (w * i) xs)) (count_from k n) ≡ take (w * n) (drop (w * k) xs)
  unfolding count_from flat_map
  parts-joined w k zero xs = rw mul-zero
  parts-joined w k (suc n) xs = rw (parts-joined w (suc k) n xs, mul-suc w k, ← drop-drop, mul-suc, add_comm, take-add)

  -- the first of the rest, where it is of the width, or shorter and the last
  take-first : (w n : ℕ) (f : ℕ → List A) (k : ℕ) → length (f k) ≤ w → (0 < n → length (f k) ≡ w) → take w (flat_map f (count_from k (suc n))) ≡ f k
  unfolding count_from flat_map
  take-first w zero f k h i = rw append-nil (take_all w (f k) h)
  take-first w (suc n) f k h i = take_at (f k) _ w (i (omega arith))

  drop-first : (w m n : ℕ) (f : ℕ → List A) (k : ℕ) → ((i : ℕ) → k ≤ i → i < k + m → length (f i) ≡ w)
      → drop (w * m) (flat_map f (count_from k (m + n))) ≡ flat_map f (count_from (k + m) n)
  drop-first w m n f k h =
      let widths = length_flat_map f w (count_from k m) (λ i j. let both = count_from_mem k m i j in h i both.0 both.1) in
      rw (count_from-append, flat_map_append, drop_at (flat_map f (count_from k m)) (flat_map f (count_from (k + m) n)) (w * m) (widths ∙ rw length-count_from))

  pub part_flat_map : (w m n : ℕ) (f : ℕ → List A) (k : ℕ) → ((i : ℕ) → k ≤ i → i < k + m → length (f i) ≡ w)
      → length (f (k + m)) ≤ w → (0 < n → length (f (k + m)) ≡ w) → take w (drop (w * m) (flat_map f (count_from k (m + suc n)))) ≡ f (k + m)
  part_flat_map w m n f k before short whole = rw (drop-first w m (suc n) f k before) (take-first w n f (k + m) short whole)

pub parts_flat_map : {A B : Type 0} (f : A → List B) (w : ℕ) (xs : List A) (zs : List B) → ((x : A) → length (f x) ≡ w)
    → map (λ i. take w (drop (w * i) (flat_map f xs ++ zs))) (count_from 0 (length xs)) ≡ map f xs
unfolding count_from flat_map
parts_flat_map f w [] zs h = refl
parts_flat_map {A} {B} f w (x ∷ xs) zs h =
    ap₂ ◌∷◌
    (rw (mul-zero, append_assoc) (take_at (f x) (flat_map f xs ++ zs) w (h x)))
    (rw (count_from_suc 0 (length xs), map-map (λ i. take w (drop (w * i) ((f x ++ flat_map f xs) ++ zs))) suc)
    (map_same _ _ (count_from 0 (length xs)) (λ i j. further i) ∙ parts_flat_map f w xs zs h))
  where
    further : (i : ℕ) → take w (drop (w * suc i) ((f x ++ flat_map f xs) ++ zs)) ≡ take w (drop (w * i) (flat_map f xs ++ zs))
    further i = rw (mul-suc, add_comm (w * i) w, ← drop-drop, append_assoc, drop_at (f x) (flat_map f xs ++ zs) w (h x))

-- two lists that the test finds equal are equal
pub same_numbers_true : (xs ys : List ℕ) → same_numbers xs ys ≡ true → xs ≡ ys
unfolding same_numbers
same_numbers_true [] [] e = refl
same_numbers_true [] (y ∷ ys) e = absurd (false≢true e)
same_numbers_true (x ∷ xs) [] e = absurd (false≢true e)
same_numbers_true (x ∷ xs) (y ∷ ys) e =
    let both = (and-eq-true_iff (eqb x y) (same_numbers xs ys)).0 e in
    ap₂ ◌∷◌ (eqb-true x y both.0) (same_numbers_true xs ys both.1)

pub same_numbers_same : (xs : List ℕ) → same_numbers xs xs ≡ true
unfolding same_numbers
same_numbers_same [] = refl
same_numbers_same (x ∷ xs) = rw (eq-eqb x x refl) (same_numbers_same xs)

-- a list of zeros
pub every_zero : (xs : List ℕ) → every (λ x. eqb x 0) xs ≡ true → xs ≡ replicate (length xs) 0
unfolding every
every_zero [] e = refl
every_zero (x ∷ xs) e =
    let both = (and-eq-true_iff (eqb x 0) (every (λ y. eqb y 0) xs)).0 e in
    ap₂ ◌∷◌ (eqb-true x 0 both.0) (every_zero xs both.1)

pub zero_every : (n : ℕ) → every (λ x. eqb x 0) (replicate n 0) ≡ true
unfolding every
zero_every zero = refl
zero_every (suc n) = zero_every n

pub length-take-replicate : (m n a : ℕ) → n ≤ m → length (take n (replicate m a)) ≡ n
length-take-replicate m n a h = length-take-le n (replicate m a) (rw (length-replicate m a) h)
