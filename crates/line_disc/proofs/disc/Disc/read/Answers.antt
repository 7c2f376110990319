use Rattle.std.proofs.Common.{◌≡◌, ℕ, List, Some, false, length, refl, sym, ap, ◌∙◌, subst}
use Rattle.line_disc.specs.Discipline.{Input}
use Rattle.line_disc.specs.Transfers.{has_none, waits, read, after_read}
use Rattle.line_disc.specs.Places.{all_bytes, input_of}
use Rattle.line_disc.specs.Disc.{DiscState, discipline_of}
use Rattle.line_disc.proofs.DiscLemmas as lemmas
use Rattle.line_disc.proofs.disc.Disc.read.Goals as goal

pub invariant_of-self : goal.invariant_of-self
invariant_of-self c =
    let Waits : DiscState → Type 0 = λ s. waits (discipline_of c.args.pool.now s) c.args.max ≡ false in
    let waiting : waits
    (discipline_of c.args.pool.now (lemmas.disc_state c.self.inside.termios c.self.inside.input c.self.inside.output c.self.inside.stopped))
    c.args.max ≡ false =
    subst Waits (sym c.self.view_is) (sym (c.waits.ensures.waits c.args.pool.now) ∙ c.if-waits.false) in
    let Seen : DiscState → Type 0 = λ s. has_none (input_of c.args.pool.now s.input).ready ≡ all_bytes s.input.kinds in
    let seen = subst Seen (sym c.self.view_is) (c.waits.ensures.seen c.args.pool.now) in
    let done =
    lemmas.reads c.args.pool.now c.self.inside.input c.read.new.self
    (discipline_of c.args.pool.now
    (lemmas.disc_state c.self.inside.termios c.self.inside.input c.self.inside.output c.self.inside.stopped))
    c.args.max c.read.result refl c.read.ensures.front
    c.read.ensures.rest (λ raw. seen ∙ c.self.invariant.bytes raw) waiting in
    record {
      input_blocks = ap length c.read.ensures.blocks ∙ c.self.invariant.input_blocks;
      output_blocks = c.self.invariant.output_blocks;
      bytes = λ raw. sym c.read.ensures.seen ∙ done.stays_bytes raw;
    }

pub returns-clause-bytes : goal.returns-clause-bytes
returns-clause-bytes c =
    let Waits : DiscState → Type 0 = λ s. waits (discipline_of c.args.pool.now s) c.args.max ≡ false in
    let waiting : waits
    (discipline_of c.args.pool.now (lemmas.disc_state c.self.inside.termios c.self.inside.input c.self.inside.output c.self.inside.stopped))
    c.args.max ≡ false =
    subst Waits (sym c.self.view_is) (sym (c.waits.ensures.waits c.args.pool.now) ∙ c.if-waits.false) in
    let Seen : DiscState → Type 0 = λ s. has_none (input_of c.args.pool.now s.input).ready ≡ all_bytes s.input.kinds in
    let seen = subst Seen (sym c.self.view_is) (c.waits.ensures.seen c.args.pool.now) in
    let done =
    lemmas.reads c.args.pool.now c.self.inside.input c.read.new.self
    (discipline_of c.args.pool.now
    (lemmas.disc_state c.self.inside.termios c.self.inside.input c.self.inside.output c.self.inside.stopped))
    c.args.max c.read.result refl c.read.ensures.front
    c.read.ensures.rest (λ raw. seen ∙ c.self.invariant.bytes raw) waiting in
    let Bytes : DiscState → Type 0 = λ s. Some c.read.result ≡ read (discipline_of c.args.pool.now s) c.args.max in
    subst Bytes c.self.view_is (rw waiting (ap (λ (xs : List ℕ). Some xs) done.front_is))

pub returns-clause-line : goal.returns-clause-line
returns-clause-line c =
    let Waits : DiscState → Type 0 = λ s. waits (discipline_of c.args.pool.now s) c.args.max ≡ false in
    let waiting : waits
    (discipline_of c.args.pool.now (lemmas.disc_state c.self.inside.termios c.self.inside.input c.self.inside.output c.self.inside.stopped))
    c.args.max ≡ false =
    subst Waits (sym c.self.view_is) (sym (c.waits.ensures.waits c.args.pool.now) ∙ c.if-waits.false) in
    let Seen : DiscState → Type 0 = λ s. has_none (input_of c.args.pool.now s.input).ready ≡ all_bytes s.input.kinds in
    let seen = subst Seen (sym c.self.view_is) (c.waits.ensures.seen c.args.pool.now) in
    let done =
    lemmas.reads c.args.pool.now c.self.inside.input c.read.new.self
    (discipline_of c.args.pool.now
    (lemmas.disc_state c.self.inside.termios c.self.inside.input c.self.inside.output c.self.inside.stopped))
    c.args.max c.read.result refl c.read.ensures.front
    c.read.ensures.rest (λ raw. seen ∙ c.self.invariant.bytes raw) waiting in
    let After : DiscState → Type 0 =
    λ s. discipline_of c.args.pool.now
    (lemmas.disc_state c.self.inside.termios c.read.new.self c.self.inside.output c.self.inside.stopped)
    ≡ after_read (discipline_of c.args.pool.now s) c.args.max in
    subst After c.self.view_is
    (rw waiting
    (ap
    (λ (i : Input ℕ). record
    (discipline_of c.args.pool.now (lemmas.disc_state c.self.inside.termios c.self.inside.input c.self.inside.output c.self.inside.stopped))
    { input = i })
    done.rest_is))
