use mathlib.Core.Path.{◌≡◌, ◌∙◌}
use mathlib.Core.List.{◌++◌}
use native.Mathlib.Nat.{mod-lt}
use native.Mathlib.Omega.{arith}
use lib.Dec.{lit<}
use borrow.Author.Rules.{rules}
use Rattle.std.specs.Slice.Iter.{chunks_rest}
use Rattle.checksum.specs.Checksum.{base256, checksum}
use Rattle.checksum.specs.PowerTable.{is_geometric, is_table}
use Rattle.checksum.proofs.SumLaws.{chunk_turn, chunks_end}
use Rattle.checksum.proofs.checksum.Goals as goal

pub loop-chunk-init : goal.loop-chunk-init
unfolding base256 checksum
loop-chunk-init c =
    let same = c.into_iter-chunk-iterator.ensures.into_iter_gives in
    (rw same c.chunks-chunk-items.ensures.size, search rules, rw (same, c.chunks-chunk-items.ensures.rest))

pub sum_of_chunk-sum-requires : goal.sum_of_chunk-sum-requires
unfolding is_geometric is_table
sum_of_chunk-sum-requires c =
    let l = c.loop-chunk in
    record { rule = tt; near = omega (arith, c.in-Some.ensures.steps.1.1, l.invariant.0); reduced = l.invariant.1 }

pub loop-chunk-preserved : goal.loop-chunk-preserved
loop-chunk-preserved c =
    let l = c.loop-chunk in
    let steps = c.in-Some.ensures.steps in
    let chunk = c.in-Some.chunk.now in
    let rest = chunks_rest c.next.new.self in
    let split : chunks_rest l.chunk-iterator ≡ chunk ++ rest = steps.1.0 in
    let sum = c.sum_of_chunk-sum.ensures in (
      steps.0 ∙ l.invariant.0,
      rw sum (mod-lt (base256 l.sum chunk) (lit< tt)),
      rw sum (chunk_turn l.sum chunk rest) ∙ rw split at l.invariant.2,
    )

pub returns : goal.returns
returns c =
    let l = c.loop-chunk in
    chunks_end l.sum _ (chunks_rest l.chunk-iterator) c.in-None.ensures.steps.1.0 l.invariant.1 l.invariant.2
