use Rattle.std.proofs.Common.{refl}
use Rattle.kern_core.proofs.system.System.byte.Goals as goal

pub invariant_of-self : goal.invariant_of-self
invariant_of-self c =
    let fit = c.self.invariant.0 in
    let new = c.do_byte.ensures in (
      record {
        files = fit.files;
        directories = new.directories _ fit.directories;
        tree = fit.tree;
        slots = new.slots _ fit.slots;
        pipes = fit.pipes;
        lines = new.lines _ fit.lines;
        blocks = new.blocks _ fit.blocks;
      },
      new.list,
    )

pub returns-clause-does : goal.returns-clause-does
returns-clause-does c = rw (← c.self.view_is) (c.do_byte.ensures.does _ refl refl refl refl c.self.invariant.0.blocks)
