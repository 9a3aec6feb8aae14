-- The claims of journals (specs/JournalClaims). Assumes nothing.
--   journals_replay, journals_respond
use Rattle.model.specs.Book.{empty_book, book_step}
use Rattle.calls.specs.Calls.{start_call, words_step}
use Rattle.calls.proofs.Represents.{Represents}
use Rattle.calls.proofs.StartLaws.{start_refines}
use Rattle.calls.proofs.CallLaws.{call_refines}
use Rattle.claims.specs.Claims.{Demand3}
use Rattle.claims.proofs.Demand3.{demand3}
use Rattle.slip_session.specs.Meaning.{calls_in}
use Rattle.claims.specs.JournalClaims.{JournalsReplay, JournalsRespond}
use Rattle.claims.proofs.ReplayLaws.{replayed-after, results_responses, calls_in_fit, result_refines}

pub journals_replay : JournalsReplay
unfolding JournalsReplay Demand3
journals_replay c memory lines sized =
    let fresh = (start_call memory).state in
    record {
      answers = result_refines words_step book_step Represents call_refines fresh (empty_book c) lines (start_refines memory sized).1;
      words = replayed-after words_step fresh lines;
      book = replayed-after book_step (empty_book c) lines;
      keeps = demand3 c memory (calls_in lines) sized (calls_in_fit lines);
    }

pub journals_respond : JournalsRespond
unfolding JournalsRespond
journals_respond w lines all = results_responses words_step w lines all
