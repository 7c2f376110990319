-- What a label lets a process read and write, as calls see it and as the tables have it.
use Rattle.std.proofs.Common.{◌≡◌, ℕ, Bool, true, false, not, Option, Some, refl, sym, ap, ◌∙◌}
use Rattle.std.specs.Prelude.{◌&&◌}
use Rattle.label_core.specs.declared.element.Element.{Element}
use Rattle.label_core.specs.Element.{dom}
use Rattle.fd_table.specs.declared.open.Target.{Target}
use Rattle.fd_table.specs.declared.open.Target.TheVariants as target
use Rattle.pipe_core.specs.Pipes.{element_at}
use Rattle.proc_table.specs.Processes.{Process}
use Rattle.tree_model.specs.Numbers.{path_of, record_of}
use Rattle.tree_model.specs.Rights as rights
use Rattle.tree_model.specs.Tree.{NodeRecord, at_path, nodes_from}
use Rattle.system_model.specs.IoCalls.{dominates_pipe, pipe_dominates, may_not_read, may_not_write}
use Rattle.system_model.specs.Looks.{tty_path, dominates_node, node_dominates, node_at}
use Rattle.system_model.specs.Parts.{Path}
use Rattle.system_model.specs.Tables.{Tables, seen_process, seen_target, view_of}
use Rattle.system_model.proofs.NodeRows.{node_at_seen}
use Rattle.system_model.proofs.SeenPipes.{element_seen}

recheck-seen : (t : Tables) → (view_of t).recheck ≡ t.recheck
unfolding view_of
recheck-seen t = refl

element-of : (t : Tables) (k : ℕ) → element_at (view_of t).pipes k ≡ element_at t.pipes k
unfolding view_of
element-of t k = element_seen t.pool t.pipes k

-- ---- reads

node-reads : (t : Tables) (p : Process ℕ) (place : Path) (recheck : Bool) (what : Option NodeRecord) → t.recheck ≡ recheck
    → at_path (nodes_from t.nodes) place ≡ what
    → ((view_of t).recheck && not (dominates_node (seen_process t.nodes p) (node_at (view_of t) place))) ≡ (recheck && not (rights.dominates_node p.label what))
node-reads t p place recheck what boot there =
    ap (λ b. b && not (dominates_node (seen_process t.nodes p) (node_at (view_of t) place))) (recheck-seen t ∙ boot)
    ∙ ap (λ o. recheck && not (rights.dominates_node p.label o)) (node_at_seen t place ∙ there)

pub file_reads : (t : Tables) (p : Process ℕ) (x : Target) (n : ℕ) (recheck b : Bool) → x ≡ target.File n → t.recheck ≡ recheck → recheck ≡ true
    → record_of t.nodes n ≡ at_path (nodes_from t.nodes) (path_of t.nodes n) → b ≡ rights.dominates_node p.label (record_of t.nodes n)
    → not b ≡ may_not_read (view_of t) (seen_process t.nodes p) (seen_target t.nodes x)
file_reads t p x n recheck b of boot again there is =
    rw of (sym (node-reads t p (path_of t.nodes n) true (record_of t.nodes n) (boot ∙ again) (sym there) ∙ ap not (sym is)))

pub file_open : (t : Tables) (p : Process ℕ) (x : Target) (n : ℕ) (recheck : Bool) → x ≡ target.File n → t.recheck ≡ recheck → recheck ≡ false
    → recheck ≡ may_not_read (view_of t) (seen_process t.nodes p) (seen_target t.nodes x)
file_open t p x n recheck of boot once =
    once ∙ rw of (sym (node-reads t p (path_of t.nodes n) false (at_path (nodes_from t.nodes) (path_of t.nodes n)) (boot ∙ once) refl))

pub line_reads : (t : Tables) (p : Process ℕ) (x : Target) (n opened m : ℕ) (recheck b : Bool) → x ≡ target.Line n opened → t.recheck ≡ recheck → recheck ≡ true
    → path_of t.nodes m ≡ tty_path n → record_of t.nodes m ≡ at_path (nodes_from t.nodes) (path_of t.nodes m)
    → b ≡ rights.dominates_node p.label (record_of t.nodes m)
    → not b ≡ may_not_read (view_of t) (seen_process t.nodes p) (seen_target t.nodes x)
line_reads t p x n opened m recheck b of boot again path there is =
    rw of
    (sym
    (node-reads t p (tty_path n) true (record_of t.nodes m) (boot ∙ again) (ap (at_path (nodes_from t.nodes)) (sym path) ∙ sym there) ∙ ap not (sym is)))

pub line_open : (t : Tables) (p : Process ℕ) (x : Target) (n opened : ℕ) (recheck : Bool) → x ≡ target.Line n opened → t.recheck ≡ recheck → recheck ≡ false
    → recheck ≡ may_not_read (view_of t) (seen_process t.nodes p) (seen_target t.nodes x)
line_open t p x n opened recheck of boot once =
    once ∙ rw of (sym (node-reads t p (tty_path n) false (at_path (nodes_from t.nodes) (tty_path n)) (boot ∙ once) refl))

pipe-reads : (t : Tables) (p : Process ℕ) (k : ℕ) (e : Element) → Some e ≡ element_at t.pipes k
    → dominates_pipe (seen_process t.nodes p) (element_at (view_of t).pipes k) ≡ dom p.label.active e
pipe-reads t p k e is = ap (dominates_pipe (seen_process t.nodes p)) (element-of t k ∙ sym is)

pub reader_reads : (t : Tables) (p : Process ℕ) (x : Target) (k : ℕ) (e : Element) (b : Bool) → x ≡ target.PipeRead k → Some e ≡ element_at t.pipes k
    → b ≡ dom p.label.active e → not b ≡ may_not_read (view_of t) (seen_process t.nodes p) (seen_target t.nodes x)
reader_reads t p x k e b of there is = rw of (ap not (is ∙ sym (pipe-reads t p k e there)))

pub writer_reads : (t : Tables) (p : Process ℕ) (x : Target) (k : ℕ) (e : Element) (b : Bool) → x ≡ target.PipeWrite k → Some e ≡ element_at t.pipes k
    → b ≡ dom p.label.active e → not b ≡ may_not_read (view_of t) (seen_process t.nodes p) (seen_target t.nodes x)
writer_reads t p x k e b of there is = rw of (ap not (is ∙ sym (pipe-reads t p k e there)))

-- ---- writes

node-writes : (t : Tables) (p : Process ℕ) (place : Path) (recheck : Bool) (what : Option NodeRecord) → t.recheck ≡ recheck
    → at_path (nodes_from t.nodes) place ≡ what
    → ((view_of t).recheck && not (node_dominates (seen_process t.nodes p) (node_at (view_of t) place))) ≡ (recheck && not (rights.node_dominates p.label what))
node-writes t p place recheck what boot there =
    ap (λ b. b && not (node_dominates (seen_process t.nodes p) (node_at (view_of t) place))) (recheck-seen t ∙ boot)
    ∙ ap (λ o. recheck && not (rights.node_dominates p.label o)) (node_at_seen t place ∙ there)

pub file_writes : (t : Tables) (p : Process ℕ) (x : Target) (n : ℕ) (recheck b : Bool) → x ≡ target.File n → t.recheck ≡ recheck → recheck ≡ true
    → record_of t.nodes n ≡ at_path (nodes_from t.nodes) (path_of t.nodes n) → b ≡ rights.node_dominates p.label (record_of t.nodes n)
    → not b ≡ may_not_write (view_of t) (seen_process t.nodes p) (seen_target t.nodes x)
file_writes t p x n recheck b of boot again there is =
    rw of (sym (node-writes t p (path_of t.nodes n) true (record_of t.nodes n) (boot ∙ again) (sym there) ∙ ap not (sym is)))

pub file_written : (t : Tables) (p : Process ℕ) (x : Target) (n : ℕ) (recheck : Bool) → x ≡ target.File n → t.recheck ≡ recheck → recheck ≡ false
    → recheck ≡ may_not_write (view_of t) (seen_process t.nodes p) (seen_target t.nodes x)
file_written t p x n recheck of boot once =
    once ∙ rw of (sym (node-writes t p (path_of t.nodes n) false (at_path (nodes_from t.nodes) (path_of t.nodes n)) (boot ∙ once) refl))

pub line_writes : (t : Tables) (p : Process ℕ) (x : Target) (n opened m : ℕ) (recheck b : Bool) → x ≡ target.Line n opened → t.recheck ≡ recheck
    → recheck ≡ true → path_of t.nodes m ≡ tty_path n → record_of t.nodes m ≡ at_path (nodes_from t.nodes) (path_of t.nodes m)
    → b ≡ rights.node_dominates p.label (record_of t.nodes m)
    → not b ≡ may_not_write (view_of t) (seen_process t.nodes p) (seen_target t.nodes x)
line_writes t p x n opened m recheck b of boot again path there is =
    rw of
    (sym
    (node-writes t p (tty_path n) true (record_of t.nodes m) (boot ∙ again) (ap (at_path (nodes_from t.nodes)) (sym path) ∙ sym there) ∙ ap not (sym is)))

pub line_written : (t : Tables) (p : Process ℕ) (x : Target) (n opened : ℕ) (recheck : Bool) → x ≡ target.Line n opened → t.recheck ≡ recheck → recheck ≡ false
    → recheck ≡ may_not_write (view_of t) (seen_process t.nodes p) (seen_target t.nodes x)
line_written t p x n opened recheck of boot once =
    once ∙ rw of (sym (node-writes t p (tty_path n) false (at_path (nodes_from t.nodes) (tty_path n)) (boot ∙ once) refl))

pipe-writes : (t : Tables) (p : Process ℕ) (k : ℕ) (e : Element) → Some e ≡ element_at t.pipes k
    → pipe_dominates (seen_process t.nodes p) (element_at (view_of t).pipes k) ≡ dom e p.label.active
pipe-writes t p k e is = ap (pipe_dominates (seen_process t.nodes p)) (element-of t k ∙ sym is)

pub reader_writes : (t : Tables) (p : Process ℕ) (x : Target) (k : ℕ) (e : Element) (b : Bool) → x ≡ target.PipeRead k → Some e ≡ element_at t.pipes k
    → b ≡ dom e p.label.active → not b ≡ may_not_write (view_of t) (seen_process t.nodes p) (seen_target t.nodes x)
reader_writes t p x k e b of there is = rw of (ap not (is ∙ sym (pipe-writes t p k e there)))

pub writer_writes : (t : Tables) (p : Process ℕ) (x : Target) (k : ℕ) (e : Element) (b : Bool) → x ≡ target.PipeWrite k → Some e ≡ element_at t.pipes k
    → b ≡ dom e p.label.active → not b ≡ may_not_write (view_of t) (seen_process t.nodes p) (seen_target t.nodes x)
writer_writes t p x k e b of there is = rw of (ap not (is ∙ sym (pipe-writes t p k e there)))
