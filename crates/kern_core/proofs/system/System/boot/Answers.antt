use Rattle.std.proofs.Common.{refl, arith}
use Rattle.system_laws.proofs.Runs.{boot_within}
use Rattle.kern_core.proofs.BootLemmas.{boot_fits, boot_seen, boot_revokes, boot_calls}
use Rattle.kern_core.proofs.system.System.boot.Goals as goal

pub invariant_of-result : goal.invariant_of-result
invariant_of-result c =
    let tree = c.in_ok-tree.ensures in
    let pool = c.in_ok-pool.ensures in
    let lines = c.lines_at_boot.ensures in
    rw (c.in_ok-fds.ensures, c.in_ok-procs.ensures, c.new-6.ensures) (
      boot_fits c.args.says.now c.in_ok-tree.tree c.new-5.result c.in_ok-pool.pool c.lines_at_boot.result c.args.says.now.recheck tree.root tree.nodes
          tree.places c.new-5.ensures.none c.new-5.ensures.blocks pool.size pool.all lines.counts lines.boots lines.held lines.blocks,
      tt,
    )

pub returns-clause-stands : goal.returns-clause-stands
returns-clause-stands c =
    let tree = c.in_ok-tree.ensures in
    record {
      seen =
          rw (c.in_ok-fds.ensures, c.in_ok-procs.ensures, c.new-6.ensures)
          (boot_seen c.args.says.now c.in_ok-tree.tree c.new-5.result c.in_ok-pool.pool c.lines_at_boot.result tree.root tree.nodes c.new-5.ensures.none
          (c.lines_at_boot.ensures.devices c.in_ok-pool.pool));
      within = boot_within c.args.says.now;
    }

pub returns-clause-after : goal.returns-clause-after
returns-clause-after c =
    record {
      revokes = boot_revokes c.in_ok-pool.pool c.lines_at_boot.result c.lines_at_boot.ensures.counts (c.lines_at_boot.ensures.devices c.in_ok-pool.pool);
      pids = rw c.in_ok-procs.ensures (omega arith);
      calls = rw c.in_ok-procs.ensures boot_calls;
      ending = rw c.new-6.ensures refl;
    }
