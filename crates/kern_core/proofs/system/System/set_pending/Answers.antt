use Rattle.std.proofs.Common.{refl}
use Rattle.proc_table.specs.Processes.{slot_at}
use Rattle.kern_core.proofs.SlotLemmas.{directories_still, slots_still, pending_seen}
use Rattle.kern_core.proofs.system.System.set_pending.Goals as goal

pub invariant_of-self : goal.invariant_of-self
invariant_of-self c =
    let fit = c.self.invariant.0 in
    let t = c.self.inside.procs in
    let s = record (slot_at t c.args.slot) { pending = c.args.call } in (
      record {
        files = fit.files;
        directories = rw c.set_pending.ensures (directories_still c.self.inside.tree t c.args.slot s refl fit.directories);
        tree = fit.tree;
        slots = rw c.set_pending.ensures (slots_still c.self.inside.fds t c.args.slot s refl fit.slots);
        pipes = fit.pipes;
        lines = fit.lines;
        blocks = fit.blocks;
      },
      c.self.invariant.1,
    )

pub returns-clause-does : goal.returns-clause-does
returns-clause-does c = rw (c.set_pending.ensures, ← c.self.view_is) (pending_seen _ c.args.slot c.args.call)
