use Rattle.std.proofs.Common.{◌≡◌, ℕ, List, true, false, length, Some, None, sym, ap, ◌∙◌}
use Rattle.std.specs.Prelude.{◌==◌, filter, filter_map, option_and_then, option_copied, slice_get}
use Rattle.proc_table.specs.Processes.{holds, process_at, slots_by_pid, is_running}
use Rattle.proc_table.specs.Procs.{process_of}
use Rattle.proc_table.specs.Kills.{is_named_and_seen, receiver_pid}
use Rattle.proc_table.proofs.KillLemmas.{refusal-by-slot, refusal-empty, refusal-none, refusal-first}
use Rattle.proc_table.proofs.table.ProcTable.kill_refusal.Goals as goal

pub returns-in_default : goal.returns-in_default
returns-in_default c =
    let who = process_of c.args.who.now in
    let t = c.args.self.now in
    let test = is_named_and_seen who c.args.to in
    let slots : List ℕ = filter (λ slot. holds test (process_at t slot)) (slots_by_pid is_running t) in
    let none : slice_get slots 0 ≡ None =
    ap (λ (xs : List ℕ). slice_get xs 0) (sym (c.as_slice.ensures.value ∙ c.targets-targets.ensures)) ∙ sym c.first.ensures.value ∙ ap option_copied c.in_default.is
    in
    sym (refusal-empty who t slots none) ∙ refusal-by-slot who test t (slots_by_pid is_running t)

pub returns-then-not-is_empty : goal.returns-then-not-is_empty
returns-then-not-is_empty c =
    let who = process_of c.args.who.now in
    let t = c.args.self.now in
    let test = is_named_and_seen who c.args.to in
    let slots : List ℕ = filter (λ slot. holds test (process_at t slot)) (slots_by_pid is_running t) in
    let first : slice_get slots 0 ≡ Some c.in-Some.first.now =
    ap (λ (xs : List ℕ). slice_get xs 0) (sym (c.as_slice.ensures.value ∙ c.targets-targets.ensures)) ∙ sym c.first.ensures.value ∙ ap option_copied c.in-Some.is
    in
    let some : (length (filter_map (λ slot. option_and_then (receiver_pid who) (process_at t slot)) slots) == 0) ≡ false =
    sym (c.is_empty.ensures ∙ ap (λ (xs : List ℕ). length xs == 0) (c.receivers_among.ensures
    ∙ ap (filter_map (λ slot. option_and_then (receiver_pid who) (process_at t slot))) (c.as_slice-2.ensures.value ∙ c.targets-targets.ensures)))
    ∙ c.if-not-is_empty.true
    in
    sym (refusal-none who t slots c.in-Some.first.now first some) ∙ refusal-by-slot who test t (slots_by_pid is_running t)

pub returns : goal.returns
returns c =
    let who = process_of c.args.who.now in
    let t = c.args.self.now in
    let test = is_named_and_seen who c.args.to in
    let slots : List ℕ = filter (λ slot. holds test (process_at t slot)) (slots_by_pid is_running t) in
    let first : slice_get slots 0 ≡ Some c.in-Some.first.now =
    ap (λ (xs : List ℕ). slice_get xs 0) (sym (c.as_slice.ensures.value ∙ c.targets-targets.ensures)) ∙ sym c.first.ensures.value ∙ ap option_copied c.in-Some.is
    in
    let none : (length (filter_map (λ slot. option_and_then (receiver_pid who) (process_at t slot)) slots) == 0) ≡ true =
    sym (c.is_empty.ensures ∙ ap (λ (xs : List ℕ). length xs == 0) (c.receivers_among.ensures
    ∙ ap (filter_map (λ slot. option_and_then (receiver_pid who) (process_at t slot))) (c.as_slice-2.ensures.value ∙ c.targets-targets.ensures)))
    ∙ c.if-not-is_empty.false
    in
    c.kill_rule_at.ensures ∙ sym (refusal-first who t slots c.in-Some.first.now first none) ∙ refusal-by-slot who test t (slots_by_pid is_running t)
