-- The free cells in a pool whose links hold together, and the free head after an insertion and a removal (specs/Reach, specs/FreeHead).
--   linked_free_at      the cells that the free head reaches are the free cells, in their order
--   linked_free        each of them is a free cell that leads to the next
--   insert-takes       an insertion takes the free head
--   removed_becomes    a removed cell becomes it
-- Assumes nothing.
use Prim.Native.Nat.{ℕ, zero, suc, ◌+◌, ◌<◌}
use mathlib.Core.Path.{◌≡◌, refl, sym, ap, ◌∙◌}
use mathlib.Core.List.Memᴰ
use mathlib.Core.List.{List, ◌∷◌}
use native.Mathlib.Omega.{arith}
use lib.ListN.{get_or}
use Rattle.lists.proofs.ElementLaws.{mem_get_d}
use Rattle.lists.proofs.PermLaws.{put_here}
use Rattle.model.specs.declared.Grant.{Grant}
use Rattle.geometry.specs.declared.Side.TheVariants.{Left}
use Rattle.pool.specs.Layout.{field_of}
use Rattle.pool.proofs.FreeCellLaws.{cleared_words}
use Rattle.adt.specs.Node.{link_place}
use Rattle.adt.specs.Reach.{child_of, free_at, IsFree}
use Rattle.adt.specs.FreeHead.{TakesFreeHead, BecomesFreeHead}
use Rattle.adt.proofs.Spells.{Tree, cells_of, FreeChain, chain_end, chain_more}
use Rattle.adt.proofs.Linked.{Linked, linked_upto}
use Rattle.adt.proofs.InsertLaws.{Inserted, chain_first}
use Rattle.adt.proofs.RemoveLaws.{Removed}
use Rattle.adt.proofs.CarriesLaws.{carries-inserted}
use Rattle.adt.proofs.ReachLaws.{free-next, free-within, linked_path}

-- the i-th cell from the free head is the n-th from the m-th on
chain_free_at : {w : List ℕ} {c k : ℕ} {ks : List ℕ} (n m i : ℕ) → n + m ≡ i → free_at w m ≡ k → FreeChain w c k ks → free_at w i ≡ get_or ks n 0
unfolding free_at
chain_free_at {w} zero m i s e chain_end = ap (free_at w) (let j : i ≡ m = omega arith in j) ∙ e
chain_free_at {w} zero m i s e (chain_more pos le x) = ap (free_at w) (let j : i ≡ m = omega arith in j) ∙ e
chain_free_at {w} {c} (suc n) m i s e chain_end =
    let next : free_at w (suc m) ≡ 0 = ap (λ (j : ℕ). child_of w j Left) e in
    chain_free_at {w = w} {c = c} n (suc m) i (omega arith) next chain_end
chain_free_at {w} {k = k} (suc n) m i s e (chain_more pos le x) = chain_free_at {w = w} {k = get_or w (link_place k Left) 0} n (suc m) i (omega arith) (free-next w m e pos) x

module _ {w : List ℕ} {c : ℕ} {t : Tree} {ks : List ℕ} (h : Linked w c t ks) where
  pub linked_free_at : (n : ℕ) → free_at w n ≡ get_or ks n 0
  unfolding free_at
  linked_free_at n = chain_free_at n 0 n (omega arith) refl h.free

  pub linked_free : (n : ℕ) → 0 < free_at w n → IsFree w (free_at w n) (free_at w (suc n))
  unfolding field_of
  linked_free n i =
      let m = mem_get_d ks n 0 (free-within h n i) in
      let b = linked_upto h (get_or ks n 0) (Memᴰ.append_right (cells_of t) m) in
      rw (free-next w n (linked_free_at n) b.0, linked_free_at n) (cleared_words w c (get_or ks n 0) b.0 b.1 h.long (h.cleared (get_or ks n 0) m))

pub insert-takes : {w v : List ℕ} {c : ℕ} {t : Tree} {k : ℕ} {ks : List ℕ} {g : Grant} → Linked w c t (k ∷ ks) → Inserted w v c t k ks g → TakesFreeHead w v g
insert-takes {w} {v} {g = g} h i =
    let p = linked_path i.linked _ (put_here i.cells) in
    let first = chain_first h.free in
    record {
      path = p.0;
      carried = record { reached = rw p.1 first.pos; carries = rw p.1 (carries-inserted h i) };
      cell = p.1 ∙ sym first.head;
      rest = λ n. linked_free_at i.linked n ∙ sym (linked_free_at h (suc n));
    }

pub removed_becomes : {w v : List ℕ} {c : ℕ} {t : Tree} {k : ℕ} {ks : List ℕ} → Linked w c t ks → Removed w v c t k ks → BecomesFreeHead w v k
removed_becomes h r =
    record { head = (chain_first r.linked.free).head; rest = λ n. linked_free_at r.linked (suc n) ∙ sym (linked_free_at h n) }
