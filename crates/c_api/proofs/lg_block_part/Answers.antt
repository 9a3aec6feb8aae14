-- `lg_block_part` meets its contract: the part is empty, or not. Assumes nothing.
use mathlib.Core.Path.{sym}
use borrow.Author.Tests.{eqb-true, eqb-false}
use Rattle.c_api.proofs.ContractLaws.{part_none, part-some}
use Rattle.c_api.proofs.lg_block_part.Goals as goal

pub returns-then-is_empty : goal.returns-then-is_empty
returns-then-is_empty c = part_none _ c.block_part-part.ensures (eqb-true _ 0 (sym c.if-is_empty.ensures)) c.word.ensures

pub returns : goal.returns
returns c = part-some _ c.block_part-part.ensures (eqb-false _ 0 (sym c.if-is_empty.ensures)) c.word-2.ensures
