use Rattle.std.proofs.Common.{◌≡◌, ℕ, ◌++◌, List, refl, sym, ap, take, ◌∙◌, subst}
use Rattle.block_pool.specs.Pool.{AreOf}
use Rattle.block_pool.specs.Chain.{holds}
use Rattle.line_disc.specs.Echo.{shown}
use Rattle.line_disc.specs.Discipline.{bytes}
use Rattle.line_disc.specs.Transfers.{put}
use Rattle.line_disc.specs.Disc.{DiscState, KeepsBlocks, discipline_of, blocks_of}
use Rattle.line_disc.proofs.DiscLemmas as lemmas
use Rattle.line_disc.proofs.disc.Disc.put_out.Goals as goal

pub returns-clause-line : goal.returns-clause-line
unfolding put
returns-clause-line c =
    let IsOf : DiscState → Type 0 = λ s. AreOf c.args.pool.now (blocks_of s) in
    let of_pool = subst IsOf (sym c.self.view_is) c.requires in
    let held : holds c.append_shown.new.pool c.append_shown.new.output
    ≡
    (put bytes (discipline_of c.args.pool.now (lemmas.disc_state c.self.inside.termios c.self.inside.input c.self.inside.output c.self.inside.stopped))
    c.args.written.now).output
    =
    c.append_shown.ensures.bytes
    ∙ ap (λ (n : ℕ). holds c.args.pool.now c.self.inside.output ++ shown c.self.inside.termios (take n c.args.written.now)) c.append_shown.ensures.count
    ∙ ap (λ (xs : List ℕ). holds c.args.pool.now c.self.inside.output ++ xs) (sym (lemmas.map_same _)) in
    let Lines : DiscState → Type 0 =
    λ s. discipline_of c.append_shown.new.pool
    (lemmas.disc_state c.self.inside.termios c.self.inside.input c.append_shown.new.output c.self.inside.stopped)
    ≡ put bytes (discipline_of c.args.pool.now s) c.args.written.now in
    subst Lines c.self.view_is
    (lemmas.output_changes c.args.pool.now c.append_shown.new.pool
    (lemmas.disc_state c.self.inside.termios c.self.inside.input c.self.inside.output c.self.inside.stopped)
    (lemmas.disc_state c.self.inside.termios c.self.inside.input c.append_shown.new.output c.self.inside.stopped) _ of_pool
    c.append_shown.ensures.writes refl refl refl held)

pub returns-clause-keeps : goal.returns-clause-keeps
returns-clause-keeps c =
    let Keeps : DiscState → Type 0 =
    λ s. KeepsBlocks c.args.pool.now c.append_shown.new.pool s
    (lemmas.disc_state c.self.inside.termios c.self.inside.input c.append_shown.new.output c.self.inside.stopped) in
    subst Keeps c.self.view_is
    (lemmas.keeps_by_output c.args.pool.now c.append_shown.new.pool
    (lemmas.disc_state c.self.inside.termios c.self.inside.input c.self.inside.output c.self.inside.stopped)
    (lemmas.disc_state c.self.inside.termios c.self.inside.input c.append_shown.new.output c.self.inside.stopped) refl
    c.append_shown.ensures.blocks c.append_shown.ensures.writes)
