use Rattle.std.proofs.Common.{◌≡◌, ℕ, Bool, true, false, refl, sym, ap, ap₂, ◌∙◌, subst}
use Rattle.termios_core.specs.declared.termios.Termios.{Termios}
use Rattle.line_disc.specs.Echo.{is_char}
use Rattle.line_disc.specs.Discipline.{bytes}
use Rattle.line_disc.specs.Cook.{strip, is_flow, signal_of, cook_by_case}
use Rattle.line_disc.specs.Disc.{DiscState, discipline_of}
use Rattle.line_disc.proofs.DiscLemmas as lemmas
use Rattle.line_disc.proofs.disc.Disc.take_in.Goals as goal

pub returns-then-is_flow-clause-line : goal.returns-then-is_flow-clause-line
returns-then-is_flow-clause-line c =
    let byte : c.strip-byte.result ≡ strip c.args.self.now.termios c.args.byte =
    c.strip-byte.ensures ∙ ap (λ (t : Termios). strip t c.args.byte) c.termios.ensures in
    let flow : is_flow c.args.self.now.termios (strip c.args.self.now.termios c.args.byte) ≡ true =
    sym (c.is_flow.ensures ∙ ap₂ (λ (t : Termios) (b : ℕ). is_flow t b) c.termios.ensures byte) ∙ c.if-is_flow.true in
    let Flowed : DiscState → Type 0 =
    λ s. discipline_of c.args.pool.now (lemmas.disc_state c.self.inside.termios c.self.inside.input c.self.inside.output c.is_char-self-inside.result)
    ≡ record (discipline_of c.args.pool.now s) { stopped = c.is_char-self-inside.result } in
    let stopped = c.is_char-self-inside.ensures ∙ ap₂ (λ (t : Termios) (b : ℕ). is_char t.stop b) c.termios.ensures byte in
    let set_flow = subst Flowed c.self.view_is refl ∙ ap (λ (x : Bool). record (discipline_of c.args.pool.now c.args.self.now) { stopped = x }) stopped in
    (lemmas.cooks_flow (discipline_of c.args.pool.now c.args.self.now) (discipline_of c.args.pool.now
    (lemmas.disc_state c.self.inside.termios c.self.inside.input c.self.inside.output c.is_char-self-inside.result)) c.args.byte flow set_flow).0

pub returns-then-is_flow-clause-signal : goal.returns-then-is_flow-clause-signal
returns-then-is_flow-clause-signal c =
    let byte : c.strip-byte.result ≡ strip c.args.self.now.termios c.args.byte =
    c.strip-byte.ensures ∙ ap (λ (t : Termios). strip t c.args.byte) c.termios.ensures in
    let flow : is_flow c.args.self.now.termios (strip c.args.self.now.termios c.args.byte) ≡ true =
    sym (c.is_flow.ensures ∙ ap₂ (λ (t : Termios) (b : ℕ). is_flow t b) c.termios.ensures byte) ∙ c.if-is_flow.true in
    let Flowed : DiscState → Type 0 =
    λ s. discipline_of c.args.pool.now (lemmas.disc_state c.self.inside.termios c.self.inside.input c.self.inside.output c.is_char-self-inside.result)
    ≡ record (discipline_of c.args.pool.now s) { stopped = c.is_char-self-inside.result } in
    let stopped = c.is_char-self-inside.ensures ∙ ap₂ (λ (t : Termios) (b : ℕ). is_char t.stop b) c.termios.ensures byte in
    let set_flow = subst Flowed c.self.view_is refl ∙ ap (λ (x : Bool). record (discipline_of c.args.pool.now c.args.self.now) { stopped = x }) stopped in
    (lemmas.cooks_flow (discipline_of c.args.pool.now c.args.self.now) (discipline_of c.args.pool.now
    (lemmas.disc_state c.self.inside.termios c.self.inside.input c.self.inside.output c.is_char-self-inside.result)) c.args.byte flow set_flow).1

pub returns-clause-line : goal.returns-clause-line
returns-clause-line c =
    let byte : c.strip-byte.result ≡ strip c.args.self.now.termios c.args.byte =
    c.strip-byte.ensures ∙ ap (λ (t : Termios). strip t c.args.byte) c.termios.ensures in
    let flow : is_flow c.args.self.now.termios (strip c.args.self.now.termios c.args.byte) ≡ false =
    sym (c.is_flow.ensures ∙ ap₂ (λ (t : Termios) (b : ℕ). is_flow t b) c.termios.ensures byte) ∙ c.if-is_flow.false in
    let signal = c.signal_of-signal.ensures ∙ ap₂ (λ (t : Termios) (b : ℕ). signal_of t b) c.termios.ensures byte in
    let line = c.act.ensures.line ∙ ap (λ (b : ℕ). cook_by_case bytes (discipline_of c.args.pool.now c.args.self.now) b c.signal_of-signal.result) byte in
    (lemmas.cooks (discipline_of c.args.pool.now c.args.self.now) _ c.args.byte c.signal_of-signal.result flow signal line).0

pub returns-clause-signal : goal.returns-clause-signal
returns-clause-signal c =
    let byte : c.strip-byte.result ≡ strip c.args.self.now.termios c.args.byte =
    c.strip-byte.ensures ∙ ap (λ (t : Termios). strip t c.args.byte) c.termios.ensures in
    let flow : is_flow c.args.self.now.termios (strip c.args.self.now.termios c.args.byte) ≡ false =
    sym (c.is_flow.ensures ∙ ap₂ (λ (t : Termios) (b : ℕ). is_flow t b) c.termios.ensures byte) ∙ c.if-is_flow.false in
    let signal = c.signal_of-signal.ensures ∙ ap₂ (λ (t : Termios) (b : ℕ). signal_of t b) c.termios.ensures byte in
    let line = c.act.ensures.line ∙ ap (λ (b : ℕ). cook_by_case bytes (discipline_of c.args.pool.now c.args.self.now) b c.signal_of-signal.result) byte in
    (lemmas.cooks (discipline_of c.args.pool.now c.args.self.now) _ c.args.byte c.signal_of-signal.result flow signal line).1
