-- What the checks of reads and writes from the background of a terminal come to.
use Rattle.std.proofs.Common.{◌≡◌, ℕ, Bool, true, false, List, [], ◌∷◌, Option, Some, None, refl, ap, ap₂, ◌∙◌}
use Rattle.std.specs.Prelude.{◌&&◌}
use Rattle.sys_types.specs.declared.sig.Sig.TheVariants as sig
use Rattle.sys_types.specs.declared.rules.Rule.TheVariants.{Background}
use Rattle.proc_table.specs.Processes.{Process, is_orphaned}
use Rattle.proc_table.specs.Background as process
use Rattle.proc_table.proofs.MapLemmas.{is_orphaned-map}
use Rattle.proc_table.proofs.CallMapLemmas.{may_not_stop-map}
use Rattle.tree_model.specs.Numbers.{path_of}
use Rattle.line_disc.specs.Lines.{line_at}
use Rattle.tty_dev.specs.Table.{devices}
use Rattle.system_model.specs.Effects.{Effect}
use Rattle.system_model.specs.Rows.{Outcome, Check, refused, check, deny, first}
use Rattle.system_model.specs.Background.{stop_by, post_to_group, background_read, background_write}
use Rattle.system_model.specs.Background as view
use Rattle.system_model.specs.Tables.{Tables, seen_process, view_of}
use Rattle.system_model.proofs.SeenProcesses.{processes_mapped}

-- what both come to: in the background, where a stop is not possible, and else
abbrev pub by_background : Bool → Bool → Outcome → List Effect → Option Check
by_background true true outcome effects = Some (refused Background, [])
by_background true false outcome effects = Some (outcome, effects)
by_background false refusing outcome effects = None

first-of-both : (stops refusing : Bool) (outcome : Outcome) (effects : List Effect)
    → first (deny (stops && refusing) Background ∷ check stops outcome effects ∷ []) ≡ by_background stops refusing outcome effects
first-of-both true true outcome effects = refl
first-of-both true false outcome effects = refl
first-of-both false true outcome effects = refl
first-of-both false false outcome effects = refl

orphaned-seen : (t : Tables) (group : ℕ) → is_orphaned (view_of t).processes group ≡ is_orphaned t.processes group
unfolding view_of
orphaned-seen t group = ap (λ table. is_orphaned table group) (processes_mapped t.nodes t.processes) ∙ is_orphaned-map (path_of t.nodes) t.processes group

may-not-stop-seen : (t : Tables) (p : Process ℕ) → view.may_not_stop (view_of t) (seen_process t.nodes p) ≡ process.may_not_stop t.processes p
unfolding view_of
may-not-stop-seen t p =
    ap (λ table. process.may_not_stop table (seen_process t.nodes p)) (processes_mapped t.nodes t.processes) ∙ may_not_stop-map (path_of t.nodes) t.processes p

pub write_from_background : (t : Tables) (n : ℕ) (p : Process ℕ) (stops refusing : Bool)
    → process.is_stopped_by_write (line_at (devices t.pool t.lines) n).session (line_at (devices t.pool t.lines) n).foreground p ≡ stops
    → is_orphaned t.processes p.group ≡ refusing
    → first (background_write (view_of t) n (seen_process t.nodes p))
    ≡ by_background stops refusing (stop_by sig.TTOU (seen_process t.nodes p)) (post_to_group sig.TTOU (seen_process t.nodes p))
unfolding view_of
write_from_background t n p stops refusing is orphaned =
    let who = seen_process t.nodes p in
    first-of-both (view.is_stopped_by_write (view_of t) n who) (is_orphaned (view_of t).processes p.group) (stop_by sig.TTOU who) (post_to_group sig.TTOU who)
    ∙ ap₂ (λ s r. by_background s r (stop_by sig.TTOU who) (post_to_group sig.TTOU who)) is (orphaned-seen t p.group ∙ orphaned)

pub read_from_background : (t : Tables) (n : ℕ) (p : Process ℕ) (stops refusing : Bool)
    → process.is_background (line_at (devices t.pool t.lines) n).session (line_at (devices t.pool t.lines) n).foreground p ≡ stops
    → process.may_not_stop t.processes p ≡ refusing
    → first (background_read (view_of t) n (seen_process t.nodes p))
    ≡ by_background stops refusing (stop_by sig.TTIN (seen_process t.nodes p)) (post_to_group sig.TTIN (seen_process t.nodes p))
unfolding view_of
read_from_background t n p stops refusing is may_not =
    let who = seen_process t.nodes p in
    first-of-both (view.is_background (view_of t) n who) (view.may_not_stop (view_of t) who) (stop_by sig.TTIN who) (post_to_group sig.TTIN who)
    ∙ ap₂ (λ s r. by_background s r (stop_by sig.TTIN who) (post_to_group sig.TTIN who)) is (may-not-stop-seen t p ∙ may_not)
