use Rattle.kern_core.proofs.system.System.take.Goals as goal

pub invariant_of-self : goal.invariant_of-self
invariant_of-self c =
    let fit = c.self.invariant.0 in
    let new = c.do_take.ensures in (
      record {
        files = fit.files;
        directories = fit.directories;
        tree = fit.tree;
        slots = fit.slots;
        pipes = fit.pipes;
        lines = new.lines _ fit.lines;
        blocks = new.blocks _ fit.blocks;
      },
      c.self.invariant.1,
    )
