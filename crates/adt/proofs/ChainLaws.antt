-- Laws of the free chain.
--   chain_le           its first link is at most c
--   chain_none         it is blank exactly where no cell is free: n cells taken are all c
--   free_broken_chain   nothing in it is a cause of fault 9
-- Assumes nothing.
use Prim.Native.Nat.{ℕ, ◌+◌, ◌≤◌}
use mathlib.Core.Path.{◌≡◌, refl, sym, ◌∙◌}
use mathlib.Core.Bool.{false}
use mathlib.Core.List.{List}
use native.Mathlib.Omega.{arith}
use lib.Dec.{eqb}
use lib.ListN.{length, get_or}
use borrow.Author.Tests.{le-ltb, eq-eqb, ne_eqb}
use Rattle.geometry.specs.declared.Side.TheVariants.{Left}
use Rattle.pool.specs.Layout.{field_of}
use Rattle.pool.specs.Capacity.{capacity_of}
use Rattle.adt.specs.Node.{link_place}
use Rattle.adt.specs.Insert.{free_head, free_broken}
use Rattle.adt.proofs.Spells.{FreeChain, chain_end, chain_more}

pub chain_le : {w : List ℕ} {c k : ℕ} {ks : List ℕ} → FreeChain w c k ks → k ≤ c
chain_le chain_end = omega arith
chain_le (chain_more pos le x) = le

pub chain_none : {w : List ℕ} {c k : ℕ} {ks : List ℕ} (n : ℕ) → FreeChain w c k ks → n + length ks ≡ c → eqb k 0 ≡ eqb n c
chain_none {c = c} n chain_end e = sym (eq-eqb n c (omega arith))
chain_none {c = c} {k = k} n (chain_more pos le x) e = ne_eqb k 0 (omega arith) ∙ sym (ne_eqb n c (omega arith))

pub free_broken_chain : (w : List ℕ) {c : ℕ} {ks : List ℕ} → capacity_of w ≡ c → FreeChain w c (free_head w) ks → free_broken w ≡ false
unfolding free_broken field_of
free_broken_chain w {c} is x = go refl x
  where
    go : {k : ℕ} {js : List ℕ} → free_head w ≡ k → FreeChain w c k js → free_broken w ≡ false
    go {k} e chain_end = rw (is, e, le-ltb c 0 (omega arith))
    go {k} e (chain_more pos le y) = rw (is, e, le-ltb c k le, ne_eqb k 0 (omega arith)) (le-ltb c (get_or w (link_place k Left) 0) (chain_le y))
