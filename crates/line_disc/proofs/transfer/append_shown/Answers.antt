use Rattle.std.proofs.Common.{◌≡◌, ℕ, ◌-◌, ◌*◌, false, List, ◌++◌, length, take, min, sym, ap, ◌∙◌, arith}
use Rattle.block_pool.specs.Chain.{holds}
use Rattle.line_disc.proofs.RawLemmas.{shown_raw, fit_raw}
use Rattle.line_disc.proofs.transfer.append_shown.Goals as goal

pub returns-then-not-termios-clause-count : goal.returns-then-not-termios-clause-count
returns-then-not-termios-clause-count c =
    let raw : c.args.termios.now.flags.opost ≡ false = cc in
    let room : 4096 - length (holds c.args.pool.now c.args.output.now) ≡ c.room.result =
    omega (arith, c.room.ensures.limit c.args.pool.now, ap (λ (n : ℕ). 128 * n) c.requires.blocks) in
    c.min-count.ensures ∙ ap (λ (n : ℕ). min (length c.args.bytes.now) n) (c.from.ensures ∙ sym room)
    ∙ sym (fit_raw c.args.termios.now (4096 - length (holds c.args.pool.now c.args.output.now)) c.args.bytes.now raw)

pub returns-then-not-termios-clause-bytes : goal.returns-then-not-termios-clause-bytes
returns-then-not-termios-clause-bytes c =
    let raw : c.args.termios.now.flags.opost ≡ false = cc in
    c.append.ensures.bytes
    ∙ ap (λ (xs : List ℕ). holds c.args.pool.now c.args.output.now ++ xs)
    (sym (shown_raw c.args.termios.now (take c.min-count.result c.args.bytes.now) raw))
