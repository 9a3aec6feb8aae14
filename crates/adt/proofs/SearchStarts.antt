-- The start of a search, at the root, from memory in which nothing is met or found.
--   fresh-counted, fresh-state                            what that memory stands for
--   search-blank, search-apart                            the tests at the root
--   search_entering, search-entered                       what `enter` goes by there, and what it gives
-- Assumes nothing.
use Prim.Native.Nat.{ℕ, suc}
use mathlib.Core.Path.{◌≡◌, sym, subst, ◌∙◌}
use mathlib.Core.Bool.{Bool, true, false}
use Rattle.std.proofs.Common.{Result, Ok}
use Rattle.std.specs.Prelude.{⊤}
use mathlib.Core.List.{List, []}
use native.Mathlib.Omega.{arith}
use lib.ListN.{get_or}
use Rattle.model.specs.declared.Grant.{Grant}
use Rattle.geometry.specs.Levels.{levels}
use Rattle.geometry.specs.Region.{Region, Shape, root_region, meets}
use Rattle.geometry.specs.SearchRange.{OneSided}
use Rattle.pool.specs.Layout.{root_place}
use Rattle.pool.proofs.CapacityLaws.{capacity_of-pool_length}
use Rattle.geometry.specs.declared.Side.{Side}
use Rattle.adt.specs.declared.Broken.{Broken}
use Rattle.adt.specs.declared.search.Counters.{Counters}
use Rattle.adt.specs.Search.{nowhere, going, enter, search_by}
use Rattle.adt.specs.SearchMemory.{so_far, Counted, Fresh, Encodes, Entering, entered}
use Rattle.adt.proofs.EnterSteps.{enter-blank, enter-apart}

module _ {w : List ℕ} {c : ℕ} {h : List ℕ} {t : Counters} (fresh : Fresh w c h t) where
  pub fresh-counted : Counted c h t
  fresh-counted =
      subst (λ (u : Counters). Counted c h u) (sym fresh.unused)
      (record { hit_room = fresh.hit_room; found-met = omega arith; met-cells = omega arith })

  pub fresh-state : so_far h t ≡ going 0 [] nowhere
  fresh-state = rw fresh.unused

  -- what `enter` goes by at the root
  pub search_entering : {q g : Region} {k : ℕ} → k ≡ get_or w root_place 0 → ¬ (k ≡ 0) → OneSided q → Shape g → meets g q ≡ true → (s : Side)
      → Entering w c q h t (suc levels) 0 s k g
  search_entering e nz one_sided shape m s =
      record {
        ready = record { few = fresh.few; long = fresh.long; counted = fresh-counted };
        cell = λ few. absurd (omega arith);
        leads = e;
        some = omega (arith, nz);
        in_levels = omega arith;
        one_sided = one_sided;
        shape = shape;
        meeting = m;
      }

module _ {w : List ℕ} {c : ℕ} {h : List ℕ} {t : Counters} (q : Region) (passes : Grant → Bool) (fresh : Fresh w c h t) where
  search_enters : search_by w q passes ≡ enter w c q passes (suc levels) 0 root_place root_region (going 0 [] nowhere)
  unfolding search_by
  search_enters = rw (capacity_of-pool_length w c fresh.long)

  module _ (k : ℕ) (e : k ≡ get_or w root_place 0) where
    pub search-blank : k ≡ 0 → Encodes c (Ok tt) h t (search_by w q passes)
    search-blank z =
        let blank = enter-blank w c q passes (suc levels) 0 root_place k root_region e 0 [] nowhere z in
        record { counted = fresh-counted fresh; state = fresh-state fresh ∙ blank ∙ sym search_enters }

    module _ (nz : ¬ (k ≡ 0)) where
      deep : ¬ (suc levels ≡ 0)
      deep z = omega arith

      pub search-apart : meets root_region q ≡ false → Encodes c (Ok tt) h t (search_by w q passes)
      search-apart m = record {
        counted = fresh-counted fresh;
        state = fresh-state fresh ∙ enter-apart w c q passes (suc levels) 0 root_place k root_region e 0 [] nowhere nz deep m ∙ sym search_enters;
      }

  pub search-entered : {g : Region} → g ≡ root_region → {r : Result ⊤ Broken} {h' : List ℕ} {t' : Counters} (s : Side)
      → Encodes c r h' t' (entered w c q passes h t (suc levels) 0 s g) → Encodes c r h' t' (search_by w q passes)
  search-entered i s d = record { counted = d.counted; state = d.state ∙ rw (i, fresh-state fresh) (sym search_enters) }
