-- The laws of whole runs from a boot.
use Rattle.std.specs.Prelude.{ℕ, List}
use Rattle.call_words.specs.declared.event.Event.{Event}
use Rattle.user_db.specs.declared.boot.Boot.{Boot}
use Rattle.system_model.specs.State.{State, view, boot}
use Rattle.system_model.specs.Run.{Throughout, state_from}
use Rattle.system_laws.specs.Laws.{Refuses, Revokes, MarksRevokes, ObeysLabels, OpensByLabels, AreOpenedWell, Waits, EndsAll, WakesSleepers}
use Rattle.system_laws.specs.OriginLaws.{HaveOrigins, MovesUnrevoked, ShutsWindow, PassesByLabels}
use Rattle.system_laws.specs.ProvenanceLaws.{ReadsInOrder, SendsInOrder}

-- the law of who waits, in the state before an event
abbrev pub WaitsBefore : State → ℕ → Event → Type 0
WaitsBefore s p e = Waits (view s)

-- Each law holds of each event of the run, of which the first is at position 1.
pub record ObeysLaws (says : Boot) (es : List Event) : Type 0 where
  -- each denial carries the first rule that holds, each sleep its reason, and a denied event sends TTIN, TTOU or PIPE at the most
  pub refusal : Throughout Refuses (boot says) 1 es
  -- through a file of a line that was revoked after its open no byte moves, and no call through it waits
  pub revocation : Throughout Revokes (boot says) 1 es
  -- a line is revoked by each answered revoke(2) of its node and by each end of its session's leader, and by nothing else
  pub marks : Throughout MarksRevokes (boot says) 1 es
  -- a read answers bytes, and a write a count, only where labels allow it
  pub labels : Throughout ObeysLabels (boot says) 1 es
  -- a node is opened only for what labels allow
  pub opens : Throughout OpensByLabels (boot says) 1 es
  -- at every moment each open file was opened by an event that might open it so
  pub origins : AreOpenedWell says es
  -- before each event, and after the last one, a slot waits just where another try of its call would sleep and change nothing
  pub waiting : Throughout WaitsBefore (boot says) 1 es
  pub waiting_at_last : Waits (view (state_from (boot says) 1 es))
  -- all whom an event ends are ended
  pub endings : Throughout EndsAll (boot says) 1 es
  -- who sleeps at a revoke wakes, and is answered as a dead file answers
  pub sleepers : WakesSleepers says es
  -- what a number of a slot stands for was made by the event at the number's origin, as events, decisions and processes tell it
  pub descriptors : HaveOrigins says es
  -- bytes of a line move through a number only while no event revoked the line after the number's origin
  pub moves : MovesUnrevoked says es
  -- of a line whose node is shut after a revoke, bytes move only through what the superuser opened since
  pub window : ShutsWindow says es
  -- bytes pass only as labels allow: of a pipe the caller's then, of a file and a line those of who opened it, and where the boot says so the caller's too
  pub passing : PassesByLabels says es
  -- over all reads of a line the positions of the events that brought the bytes strictly rise, and each byte is of a byte of the line after its last revoke
  pub provenance : ReadsInOrder says es
  -- over all takes of a line the positions of the events that put the bytes never fall, and what is taken of one is what it put out, from its first byte on
  pub sending : SendsInOrder says es
