use Rattle.kern_core.proofs.system.System.pipe.Goals as goal

pub invariant_of-self : goal.invariant_of-self
invariant_of-self c =
    let fit = c.self.invariant.0 in
    let new = c.do_pipe.ensures in (
      record {
        files = new.files _ fit.files;
        directories = fit.directories;
        tree = fit.tree;
        slots = new.slots fit.slots;
        pipes = new.pipes;
        lines = new.lines _ _ fit.lines;
        blocks = new.blocks _ fit.blocks;
      },
      c.self.invariant.1,
    )
