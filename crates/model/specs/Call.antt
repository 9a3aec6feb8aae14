-- The calls that demand 3's lists are made of (document 01, "The plain book"), with their arguments.
--   Request     what grant is asked to add; its kind comes as a number, since a number above 1 is fault 4
--   request     the request of these values
--   requested, request_of   the grant that an accepted request adds, and a grant as a request
--   Call        grant, revoke, list with its choice (document 02, card 4) and its lent list, decide, count
-- Assumes nothing: these are definitions.
use Rattle.std.specs.Prelude.{ℕ, List}
use Rattle.model.specs.declared.Box.{Box}
use Rattle.model.specs.declared.Grant.{Grant}
use Rattle.model.specs.declared.Choice.{Choice}
use Rattle.model.specs.Kind.{kind_number, kind_of}

pub record Request : Type 0 where
  pub number : ℕ
  pub rank : ℕ
  pub kind : ℕ
  pub bounds : Box

abbrev pub request : ℕ → ℕ → ℕ → Box → Request
request number rank kind bounds = record { number = number; rank = rank; kind = kind; bounds = bounds }

-- the grant that an accepted request adds
abbrev pub requested : Request → Grant
requested r = record { number = r.number; rank = r.rank; kind = kind_of r.kind; bounds = r.bounds }

-- a grant as grant takes it
abbrev pub request_of : Grant → Request
request_of g = record { number = g.number; rank = g.rank; kind = kind_number g.kind; bounds = g.bounds }

pub data Call : Type 0 where
  grant : Request → Call
  revoke : ℕ → Call
  list : Box → Choice → List ℕ → Call
  decide : ℕ → ℕ → ℕ → Call
  count : Call
