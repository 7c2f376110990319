-- The row of revoke(2), over the tables of a kernel.
use Rattle.std.proofs.Common.{◌≡◌, ◌≢◌, ◌⊎◌, inl, inr, ℕ, true, false, List, [], ◌∷◌, Option, Some, None, option_map, refl, sym, ap, ap₂, ◌∙◌}
use Rattle.std.specs.Prelude.{◌==◌}
use Rattle.std.proofs.lemmas.Bool.Decides.{eqb_tells}
use Rattle.sys_types.specs.declared.sig.Sig.TheVariants as sig
use Rattle.sys_types.specs.declared.node.Kind.{Kind}
use Rattle.sys_types.specs.declared.node.Kind.TheVariants as kind
use Rattle.call_words.specs.declared.signal.To.TheVariants.{Pid}
use Rattle.block_pool.specs.Pool.{PoolState}
use Rattle.line_disc.specs.Device.{Device}
use Rattle.line_disc.specs.Lines.{line_at}
use Rattle.proc_table.specs.Processes.{Process, running_at}
use Rattle.tree_model.specs.Tree.{NodeRecord}
use Rattle.tty_dev.specs.Line.{LineState}
use Rattle.tty_dev.specs.Table.{devices}
use Rattle.system_model.specs.State.{View}
use Rattle.system_model.specs.LineEffects.{revoke_line}
use Rattle.system_model.specs.ProcessEffects.{post}
use Rattle.system_model.specs.Effects.{on_lines, on_processes, change, change_all}
use Rattle.system_model.specs.Looks.{caller_of}
use Rattle.system_model.specs.Tables.{Tables, view_of}
use Rattle.system_model.specs.TtyCalls.{tty_of_kind, tty_of_node, tell_leader, revoke_effects}
use Rattle.system_model.proofs.SeenLines.{line_seen}
use Rattle.system_model.proofs.SeenProcesses.{caller_seen}

-- ---- the line of a node

kind-no-line : (k other : Kind) → Some k ≡ Some other → ((n : ℕ) → other ≡ kind.Line n → ⊥) → tty_of_kind k ≡ None
kind-no-line kind.File other is never = refl
kind-no-line kind.Dir other is never = refl
kind-no-line (kind.Line n) other is never = absurd (never n cc)
kind-no-line kind.Tty other is never = refl

pub no_line : (what : Option NodeRecord) (k : Kind) → option_map (λ r. r.kind) what ≡ Some k → ((n : ℕ) → k ≡ kind.Line n → ⊥) → tty_of_node what ≡ None
no_line None k is never = refl
no_line (Some r) k is never = kind-no-line r.kind k is never

kind-a-line : (k : Kind) (n : ℕ) → Some k ≡ Some (kind.Line n) → tty_of_kind k ≡ Some n
kind-a-line kind.File n is = cc
kind-a-line kind.Dir n is = cc
kind-a-line (kind.Line m) n is = cc
kind-a-line kind.Tty n is = cc

pub a_line : (what : Option NodeRecord) (k : Kind) (n : ℕ) → option_map (λ r. r.kind) what ≡ Some k → k ≡ kind.Line n → tty_of_node what ≡ Some n
a_line None k n is same = cc
a_line (Some r) k n is same = kind-a-line r.kind n (is ∙ ap Some same)

-- ---- the former leader

hup-by : (p : Process ℕ) (nodes-seen leader : ℕ) → p.pid ≡ nodes-seen → ((nodes-seen == leader) ≡ true) × (nodes-seen ≡ leader) ⊎ ((nodes-seen == leader) ≡ false) × (nodes-seen ≢ leader)
    → p.pid ≢ leader → (nodes-seen == leader) ≡ false
hup-by p seen leader is (inl same) other = absurd (other (is ∙ same.1))
hup-by p seen leader is (inr differs) other = differs.0

pub hup_other : (t : Tables) (slot : ℕ) (p : Process ℕ) (leader : ℕ) → running_at t.processes slot ≡ Some p → p.pid ≢ leader
    → tell_leader (caller_of (view_of t) slot) (Some leader) ≡ on_processes (post sig.HUP (Pid leader)) ∷ []
hup_other t slot p leader running other =
    ap (λ who. tell_leader who (Some leader)) (caller_seen t slot p running)
    ∙ rw (hup-by p p.pid leader refl (eqb_tells p.pid leader) other) refl

self-by : (pid leader : ℕ) → ((pid == leader) ≡ true) × (pid ≡ leader) ⊎ ((pid == leader) ≡ false) × (pid ≢ leader) → pid ≡ leader → (pid == leader) ≡ true
self-by pid leader (inl same) is = same.0
self-by pid leader (inr differs) is = absurd (differs.1 is)

pub hup_self : (t : Tables) (slot : ℕ) (p : Process ℕ) (leader : ℕ) → running_at t.processes slot ≡ Some p → p.pid ≡ leader
    → tell_leader (caller_of (view_of t) slot) (Some leader) ≡ []
hup_self t slot p leader running is =
    ap (λ who. tell_leader who (Some leader)) (caller_seen t slot p running)
    ∙ rw (self-by p.pid leader (eqb_tells p.pid leader) is) refl

-- ---- the whole

pub revoke_done : (t : Tables) (pool : PoolState) (lines : List LineState) (new : View) (slot n : ℕ) (p : Process ℕ) (session : Option ℕ)
    → running_at t.processes slot ≡ Some p → view_of (record t { pool = pool; lines = lines }) ≡ change (view_of t) (on_lines (revoke_line n))
    → session ≡ (line_at (devices t.pool t.lines) n).session
    → new ≡ change_all (view_of (record t { pool = pool; lines = lines })) (tell_leader (caller_of (view_of (record t { pool = pool; lines = lines })) slot) session)
    → new ≡ change_all (view_of t) (revoke_effects (view_of t) (caller_of (view_of t) slot) (Some n))
revoke_done t pool lines new slot n p session running dead had is =
    is
    ∙ ap (λ who. change_all (view_of (record t { pool = pool; lines = lines })) (tell_leader who session))
    (caller_seen (record t { pool = pool; lines = lines }) slot p running ∙ sym (caller_seen t slot p running))
    ∙ ap₂ (λ v s. change_all v (tell_leader (caller_of (view_of t) slot) s)) dead
    (had ∙ sym (ap (λ (line : Device ℕ). line.session) (line_seen t n)))
