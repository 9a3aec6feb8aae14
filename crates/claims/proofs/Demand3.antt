-- Demand 3: every list of calls on a fresh index is told what the plain book tells it, on one tree, through every file.
--   demand3        it is what made pools keep (KeepsLaws), of the fresh one and of the one that the calls leave
-- Assumes nothing.
use Rattle.calls.proofs.StartLaws.{start_refines}
use Rattle.claims.specs.Made.{made-start}
use Rattle.claims.specs.Claims.{MadePools, Demand3}
use Rattle.claims.proofs.MadeLaws.{made_calls}
use Rattle.claims.proofs.KeepsLaws.{made_pools}

pub demand3 : Demand3
unfolding Demand3 MadePools
demand3 c memory calls m fit =
    let kept = made_pools _ _ _ (made_calls m calls fit) in
    record {
      started = (start_refines memory m).0;
      answers = (made_pools _ _ _ (made-start m)).answers calls fit;
      holds = kept.holds;
      files = kept.files;
      loads = kept.loads;
    }
