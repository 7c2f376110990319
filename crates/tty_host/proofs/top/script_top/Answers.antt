use Rattle.std.proofs.Common.{refl, sym, subst, inl, inr}
use Rattle.tty_host.specs.Ends.{Writes}
use Rattle.tty_host.specs.declared.status.Status.TheVariants.{Input, WriteFault}
use Rattle.tty_host.proofs.OutputLemmas.{began-none}
use Rattle.tty_host.proofs.TopLemmas.{script_ran, good-boot, bad-boot, no-bad-line}
use Rattle.tty_host.proofs.top.script_top.Goals as goal

pub returns-in-Ok : goal.returns-in-Ok
returns-in-Ok g c =
    let run = c.run_script.ensures in
    let says = c.in-Ok.ensures.reads in
    script_ran _ _ _ _
    (λ boot_text text bl sl.
    let same = good-boot boot_text text c.in-Ok.says (says boot_text bl) in
    subst (λ out. Writes c.run_script.result out (g.K.Sink.written c.args.out.now) (g.K.Sink.written c.run_script.new.out)) (sym same) (run.writes text sl))
    run.all (λ e. inr (run.read_fault e)) run.write_fault run.others
    (λ boot_text bl bad. absurd (no-bad-line _ _ (says boot_text bl) bad))

pub returns-in-Ok-write_all : goal.returns-in-Ok-write_all
returns-in-Ok-write_all g c =
    let before = c.in-Ok-write_all.ensures.ok in
    let says = rw c.in-Err-Line.field-0-is at c.in-Err-Line.ensures.reads in
    script_ran _ _ _ _
    (λ boot_text text bl sl.
    subst (λ out. Writes Input out (g.K.Sink.written c.args.out.now) (g.K.Sink.written c.write_all.new.out))
    (sym (bad-boot boot_text text c.in-Err-Line.number (says boot_text bl)))
    (record { appended = rw (c.as_slice.ensures.value, c.bad_boot_line.ensures, c.in-Err-Line.number-is) at before; code = refl }))
    (λ text left e. cc) (λ e. cc) (λ e. cc) tt (λ boot_text bl bad. (refl, refl))

pub returns-in-Err : goal.returns-in-Err
returns-in-Err g c =
    let began = c.in-Err.ensures.began in
    let says = rw c.in-Err-Line.field-0-is at c.in-Err-Line.ensures.reads in
    script_ran _ _ _ _
    (λ boot_text text bl sl.
    subst (λ out. Writes WriteFault out (g.K.Sink.written c.args.out.now) (g.K.Sink.written c.write_all.new.out))
    (sym (bad-boot boot_text text c.in-Err-Line.number (says boot_text bl)))
    (rw (c.as_slice.ensures.value, c.bad_boot_line.ensures, c.in-Err-Line.number-is) at began))
    (λ text left e. cc) (λ e. cc) (λ e. c.in-Err.ensures.failed) tt (λ boot_text bl bad. (refl, refl))

pub returns-in-Err-Failed : goal.returns-in-Err-Failed
returns-in-Err-Failed g c =
    let failed = rw c.in-Err-Failed.field-0-is at c.in-Err-Failed.ensures.failed in
    script_ran _ _ _ _ (λ boot_text text bl sl. began-none _ _) (λ text left e. cc) (λ e. inl (failed refl)) (λ e. cc) tt (λ boot_text bl bad. (refl, refl))

pub returns-in-Err-NoMemory : goal.returns-in-Err-NoMemory
returns-in-Err-NoMemory g c = script_ran _ _ _ _ (λ boot_text text bl sl. inl refl) (λ text left e. cc) (λ e. cc) (λ e. cc) tt (λ boot_text bl bad. (refl, refl))
