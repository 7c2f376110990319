use Rattle.kern_core.proofs.system.System.dup.Goals as goal

pub invariant_of-self : goal.invariant_of-self
invariant_of-self c =
    let fit = c.self.invariant.0 in
    let new = c.do_dup.ensures in (
      record {
        files = new.files _ fit.files;
        directories = fit.directories;
        tree = fit.tree;
        slots = new.slots _ fit.slots;
        pipes = new.pipes _ fit.pipes;
        lines = new.lines _ _ fit.lines;
        blocks = fit.blocks;
      },
      c.self.invariant.1,
    )
