-- The kernel at boot: its tables fit together, and calls see the state of the boot.
use Rattle.std.proofs.Common.{◌≡◌, ℕ, zero, suc, ◌+◌, ◌<◌, ◌≤◌, Bool, true, false, not, List, [], ◌∷◌, ◌++◌, map, length, replicate, get_or, Option, Some, None, option_map, refl, sym, ap, ◌∙◌, arith}
use Rattle.std.specs.Prelude.{is_some, if◌then◌else◌, ◌==◌}
use Rattle.std.specs.List.{All}
use Rattle.sys_types.specs.declared.limits.TheConstants.{LINES, RAW_LINE, PIPES}
use Rattle.user_db.specs.declared.boot.Boot.{Boot}
use Rattle.block_pool.specs.Pool.{PoolState, AreAllOf}
use Rattle.block_pool.specs.Chain.{ChainState}
use Rattle.fd_table.specs.declared.open.Open.{Open}
use Rattle.fd_table.specs.declared.open.Descriptor.{Descriptor}
use Rattle.fd_table.specs.Kept.{nothing_open}
use Rattle.fd_table.specs.Shared.{Shared, descriptor_at, entry_at, map_files, count_files}
use Rattle.line_disc.specs.Device.{Device, closed_device, map_device}
use Rattle.line_disc.specs.Lines.{line_at}
use Rattle.pipe_core.specs.Pipes.{Pipes, is_there}
use Rattle.pipe_core.specs.Chains as pipe
use Rattle.pipe_core.specs.Chains.{bytes_of}
use Rattle.proc_table.specs.Processes.{Process, Processes, at_boot, process_at, pending_at, empty_slot, Slot}
use Rattle.tree_model.specs.Tree.{NodeAt, Nodes, nodes_from, is_dir_record}
use Rattle.tree_model.specs.Numbers.{node_at, path_in, path_of, record_of}
use Rattle.tree_model.specs.Standard.{standard_tree, root_node}
use Rattle.vnode_tree.specs.Standard.{AreAtPaths}
use Rattle.tty_dev.specs.Line.{LineState}
use Rattle.tty_dev.specs.History.{Counts, at_first}
use Rattle.tty_dev.specs.Table as line
use Rattle.tty_dev.specs.Table.{devices, counts_of, boots_of, count_at, lines_held}
use Rattle.system_model.specs.Parts.{Path}
use Rattle.system_model.specs.State.{NamedFile, OpenFile, View, view, boot, seen_file, byte_of}
use Rattle.system_model.specs.Fit.{FitLines, Fit, AreRevokedAtMost, is_end_of, is_live_file}
use Rattle.system_model.specs.Tables.{generations, seen_open, seen_entries, seen_files, seen_slots, seen_processes, seen_pipes, view_of}
use Rattle.system_laws.specs.PendingCalls.{AreFitCalls}
use Rattle.kern_core.proofs.BootTree.{boot_tree, boot_root}

-- ---- nothing is open

abbrev nones : {A : Type 0} → ℕ → List (Option A)
nones n = replicate n None

none-at : {A : Type 0} (n k : ℕ) → get_or (nones {A = A} n) k None ≡ None
none-at zero k = refl
none-at (suc n) zero = refl
none-at (suc n) (suc k) = none-at n k

no-entry : {F : Type 0} (entry : ℕ) → entry_at (nothing_open {F = F}).files entry ≡ None
no-entry entry = none-at 256 entry

same-at : {A : Type 0} (n k : ℕ) (x : A) → get_or (replicate n x) k x ≡ x
same-at zero k x = refl
same-at (suc n) zero x = refl
same-at (suc n) (suc k) x = same-at n k x

-- ---- the process of the boot

boot-place : (slot : ℕ) (p : Process ℕ) → process_at (at_boot 0) slot ≡ Some p → (p.directory ≡ 0)
boot-place zero p is = sym cc
boot-place (suc slot) p is = absurd (none (ap (λ (s : Slot ℕ). s.process) (same-at 31 slot empty_slot)) is)
  where
    none : {o : Option (Process ℕ)} → o ≡ None → o ≡ Some p → ⊥
    none empty here = cc

boot-pending : (slot : ℕ) → pending_at {D = ℕ} (at_boot 0) slot ≡ None
boot-pending zero = refl
boot-pending (suc slot) = ap (λ (s : Slot ℕ). s.pending) (same-at 31 slot empty_slot)

pub boot_calls : AreFitCalls {D = ℕ} (at_boot 0)
boot_calls = record { each = λ slot. rw (boot-pending slot) tt }

boot-directory : (nodes : List (Option NodeAt)) (slot : ℕ) (p : Process ℕ) → node_at nodes 0 ≡ Some root_node → process_at (at_boot 0) slot ≡ Some p
    → is_dir_record (record_of nodes p.directory) ≡ true
boot-directory nodes slot p at is = ap (λ n. is_dir_record (record_of nodes n)) (boot-place slot p is) ∙ (boot_root nodes at).directory

-- ---- all tables

no-file : {F : Type 0} (entry : ℕ) (f : F) → entry_at (nothing_open {F = F}).files entry ≡ Some f → ⊥
no-file {F = F} entry f is = never (no-entry {F = F} entry) is
  where
    never : {o : Option F} → o ≡ None → o ≡ Some f → ⊥
    never none some = cc

no-descriptor : (slot number : ℕ) (d : Descriptor) → descriptor_at (nothing_open {F = Open}).table slot number ≡ Some d → ⊥
no-descriptor slot number d is = never (none-of slot) is
  where
    never : {o : Option Descriptor} → o ≡ None → o ≡ Some d → ⊥
    never none some = cc

    row-of : (n k : ℕ) (row : List (Option Descriptor)) → get_or row number None ≡ None → get_or (get_or (replicate n row) k []) number None ≡ None
    row-of zero k row none = refl
    row-of (suc n) zero row none = none
    row-of (suc n) (suc k) row none = row-of n k row none

    none-of : (slot : ℕ) → get_or (get_or (replicate 32 (nones {A = Descriptor} 32)) slot []) number None ≡ None
    none-of slot = row-of 32 slot (nones 32) (none-at 32 number)

no-pipes : (k : ℕ) → is_there {P = ChainState} (replicate PIPES None) k ≡ not (count_files (λ (f : Open). is_end_of k f.target) nothing_open == 0)
no-pipes k = ap is_some (none-at 16 k)

none-live : (n : ℕ) (test : Open → Bool) → (count_at (replicate LINES at_first) n).live ≡ count_files test nothing_open
none-live n test = ap (λ (c : Counts). c.live) (same-at 8 n at_first)

cooked-all : (n : ℕ) → n < 8 → get_or (replicate RAW_LINE true ++ false ∷ []) n false ≡ not (n == RAW_LINE)
cooked-all zero less = refl
cooked-all (suc zero) less = refl
cooked-all (suc (suc zero)) less = refl
cooked-all (suc (suc (suc zero))) less = refl
cooked-all (suc (suc (suc (suc zero)))) less = refl
cooked-all (suc (suc (suc (suc (suc zero))))) less = refl
cooked-all (suc (suc (suc (suc (suc (suc zero)))))) less = refl
cooked-all (suc (suc (suc (suc (suc (suc (suc zero))))))) less = refl
cooked-all (suc (suc (suc (suc (suc (suc (suc (suc n)))))))) less = absurd (omega (arith, less))

pub boot_lines : FitLines nothing_open (replicate LINES at_first) (replicate RAW_LINE true ++ false ∷ [])
boot_lines = record {
  lines = refl;
  live = λ n less. none-live n (λ f. is_live_file (generations (replicate LINES at_first)) n f.target);
  there = λ entry n opened f is of. absurd (no-file entry f is);
  early = λ entry n opened f is of. absurd (no-file entry f is);
  cooked = cooked-all;
}

pub boot_fits : (says : Boot) (nodes : List (Option NodeAt)) (pipes : Pipes ChainState) (pool : PoolState) (lines : List LineState) (recheck : Bool)
    → node_at nodes 0 ≡ Some root_node → nodes_from nodes ≡ standard_tree says → AreAtPaths nodes → pipes ≡ replicate PIPES None
    → All pipe.HoldsBlocks pipes → length pool.blocks ≡ 512 → AreAllOf pool [] → counts_of lines ≡ replicate LINES at_first
    → boots_of lines ≡ replicate RAW_LINE true ++ false ∷ [] → lines_held lines ≡ [] → All line.HoldsBlocks lines
    → Fit (record {
      nodes = nodes;
      descriptors = nothing_open;
      pipes = pipes;
      processes = at_boot 0;
      pool = pool;
      lines = lines;
      ending = [];
      recheck = recheck;
      halted = false;
    })
boot_fits says nodes pipes pool lines recheck root tree places none pipe_blocks size all counts boots held blocks = record {
  files = record { live = λ entry number f is of. absurd (no-file entry f is) };
  directories = record {
    live = λ slot p is. boot-directory nodes slot p root is;
    root = boot_root nodes root;
    zombies = λ slot p is zombie. boot-place slot p is;
  };
  tree = boot_tree says nodes tree places;
  slots = record { running = λ slot number d is. absurd (no-descriptor slot number d is) };
  pipes = record { places = ap length none; ends = λ k. ap (λ ps. is_there ps k) none ∙ no-pipes k };
  lines = rw (counts, boots) boot_lines;
  blocks = record { size = size; all = rw (held, none) all; lines = blocks; pipes = pipe_blocks };
}

-- ---- the bounds

boot-few : (n : ℕ) → (count_at (replicate LINES at_first) n).generation
    + (if is_some (line_at (replicate LINES (closed_device {C = ℕ})) n).session then 1 else 0) ≤ 0
boot-few n =
    rw (same-at 8 n at_first, same-at 8 n (closed_device {C = ℕ})) (omega arith)

pub boot_revokes : (pool : PoolState) (lines : List LineState) → counts_of lines ≡ replicate LINES at_first
    → devices pool lines ≡ replicate LINES closed_device → AreRevokedAtMost 0 pool lines
boot_revokes pool lines counts closed = record { each = λ n. rw (counts, closed) (boot-few n) }

-- ---- what calls see

nones-seen : {A B : Type 0} (f : A → B) (n : ℕ) → map (option_map f) (replicate n None) ≡ replicate n None
nones-seen f zero = refl
nones-seen f (suc n) = ap (λ os. None ∷ os) (nones-seen f n)

closed-seen : {A B : Type 0} (f : A → B) (n : ℕ) → map (map_device f) (replicate n closed_device) ≡ replicate n closed_device
closed-seen f zero = refl
closed-seen f (suc n) = ap (λ ds. closed_device ∷ ds) (closed-seen f n)

process-seen : (nodes : List (Option NodeAt)) → seen_processes nodes (at_boot 0) ≡ at_boot (path_of nodes 0)
unfolding seen_slots
process-seen nodes = refl

all-seen : (recheck : Bool) → Shared OpenFile → Pipes (List ℕ) → List (Device ℕ) → Nodes → Processes Path → View
all-seen recheck d p l t q = record {
  descriptors = d;
  pipes = p;
  lines = l;
  tree = t;
  processes = q;
  ending = [];
  recheck = recheck;
  halted = false;
}

files-none : (nodes : List (Option NodeAt)) (revokes : List ℕ) → seen_files nodes revokes nothing_open ≡ nothing_open
unfolding seen_entries
files-none nodes revokes = ap (λ fs. record { table = (nothing_open {F = Open}).table; files = fs }) (nones-seen (seen_open nodes revokes) 256)

state-none : map_files (seen_file []) nothing_open ≡ nothing_open
state-none = ap (λ fs. record { table = (nothing_open {F = NamedFile}).table; files = fs }) (nones-seen (seen_file []) 256)

pipes-none : (pool : PoolState) (pipes : Pipes ChainState) → pipes ≡ replicate PIPES None → seen_pipes pool pipes ≡ replicate PIPES None
unfolding seen_pipes
pipes-none pool pipes none = ap (λ ps. bytes_of pool ps) none

boot-view : (says : Boot) → all-seen says.recheck nothing_open (replicate PIPES None) (replicate LINES closed_device) (standard_tree says) (at_boot []) ≡ view (boot says)
unfolding view boot all-seen
boot-view says =
    ap (λ d. all-seen says.recheck d (replicate PIPES None) (replicate LINES closed_device) (standard_tree says) (at_boot [])) (sym state-none)
    ∙ ap (λ l. all-seen says.recheck (map_files (seen_file []) nothing_open) (replicate PIPES None) l (standard_tree says) (at_boot [])) (sym (closed-seen byte_of 8))

pub boot_seen : (says : Boot) (nodes : List (Option NodeAt)) (pipes : Pipes ChainState) (pool : PoolState) (lines : List LineState)
    → node_at nodes 0 ≡ Some root_node → nodes_from nodes ≡ standard_tree says → pipes ≡ replicate PIPES None
    → devices pool lines ≡ replicate LINES closed_device
    → view_of (record {
      nodes = nodes;
      descriptors = nothing_open;
      pipes = pipes;
      processes = at_boot 0;
      pool = pool;
      lines = lines;
      ending = [];
      recheck = says.recheck;
      halted = false;
    })
    ≡ view (boot says)
unfolding view_of all-seen
boot_seen says nodes pipes pool lines root tree none closed =
    ap (λ d. all-seen says.recheck d (seen_pipes pool pipes) (devices pool lines) (nodes_from nodes) (seen_processes nodes (at_boot 0)))
    (files-none nodes (generations (counts_of lines)))
    ∙ ap (λ p. all-seen says.recheck nothing_open p (devices pool lines) (nodes_from nodes) (seen_processes nodes (at_boot 0))) (pipes-none pool pipes none)
    ∙ ap (λ l. all-seen says.recheck nothing_open (replicate PIPES None) l (nodes_from nodes) (seen_processes nodes (at_boot 0))) closed
    ∙ ap (λ t. all-seen says.recheck nothing_open (replicate PIPES None) (replicate LINES closed_device) t (seen_processes nodes (at_boot 0))) tree
    ∙ ap (all-seen says.recheck nothing_open (replicate PIPES None) (replicate LINES closed_device) (standard_tree says))
    (process-seen nodes ∙ ap at_boot (ap path_in root))
    ∙ boot-view says
