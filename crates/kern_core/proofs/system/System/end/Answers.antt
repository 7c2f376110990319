use Rattle.kern_core.proofs.system.System.end.Goals as goal

pub invariant_of-self : goal.invariant_of-self
invariant_of-self c =
    let fit = c.self.invariant.0 in
    let new = c.do_end.ensures in (
      record {
        files = fit.files;
        directories = new.directories _ fit.directories;
        tree = fit.tree;
        slots = new.slots _ fit.slots;
        pipes = fit.pipes;
        lines = new.lines _ fit.lines;
        blocks = new.blocks _ fit.blocks;
      },
      new.list,
    )
