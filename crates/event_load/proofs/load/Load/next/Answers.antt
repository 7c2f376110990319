use Rattle.std.proofs.Common.{sym, ◌∙◌, arith}
use Rattle.event_load.proofs.LoadLemmas.{opening_comes, drawn_comes}
use Rattle.event_load.proofs.load.Load.next.Goals as goal

pub returns-then-self-lt-OPENING_EVENTS-clause-event : goal.returns-then-self-lt-OPENING_EVENTS-clause-event
returns-then-self-lt-OPENING_EVENTS-clause-event c =
    sym c.self.view_is
    ∙ opening_comes c.self.inside.opening_at c.opening_event-event.result _ (omega arith) c.opening_event-event.ensures.event

pub returns-clause-event : goal.returns-clause-event
returns-clause-event c =
    sym c.self.view_is
    ∙ drawn_comes c.self.inside.opening_at c.self.inside.draws c.self.inside.generator c.next_word.result c.next_word.new.self c.drawn_event.result
    (omega arith) (omega arith) c.next_word.ensures c.drawn_event.ensures.event
