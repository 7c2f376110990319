-- What pipe(2) opens, where no check stops it: the ends of a new pipe, which has the caller's element.
use Rattle.std.proofs.Common.{◌≡◌, ◌⊎◌, inl, inr, ℕ, ◌≤◌, ◌<◌, true, false, cond, List, [], ◌∷◌, length, refl, ap, ◌∙◌, arith}
use Rattle.std.specs.Prelude.{nat_lt, Option, Some, None, is_some, is_none, option_map, count_by}
use Rattle.sys_types.specs.declared.limits.TheConstants.{PIPES, PIPE_BLOCKS}
use Rattle.sys_types.specs.declared.rules.Rule.TheVariants.{Pool}
use Rattle.call_words.specs.declared.call.Call.TheVariants as call
use Rattle.call_words.specs.declared.event.Event.{Event}
use Rattle.fd_table.specs.Shared.{lowest_number}
use Rattle.fd_table.specs.Calls.{room_rule}
use Rattle.fd_table.proofs.TableLemmas.{first-free}
use Rattle.label_core.specs.declared.element.Element.{Element}
use Rattle.std.proofs.lemmas.Bool.{ltb-false}
use Rattle.std.proofs.lemmas.List.{get_or-set_same}
use Rattle.std.proofs.lemmas.List.Sums.{passes_at_first, sum_by-cons}
use Rattle.pipe_core.specs.Pipes.{Held, Pipes, held_at, lowest_free, add, element_at}
use Rattle.system_model.specs.Parts.{Target, read_end, write_end}
use Rattle.system_model.specs.State.{View}
use Rattle.system_model.specs.FileEffects.{at_offset, change_files}
use Rattle.system_model.specs.PipeEffects.{change_pipes}
use Rattle.system_model.specs.Effects.{change_all}
use Rattle.system_model.specs.Rows.{deny, deny_by, first, answer_of}
use Rattle.system_model.specs.Looks.{caller_of, free_blocks}
use Rattle.system_model.specs.PipeCalls as pipes
use Rattle.system_model.specs.Step.{call_row, answer_to, view_after}
use Rattle.system_laws.specs.Laws.{asks_call, CanRun, by_pipe}
use Rattle.system_laws.proofs.OpenFiles.{AllOpen, Opened}
use Rattle.system_laws.proofs.NodesKept.{none-after, none-first, not-denied}

-- where not all places are taken, one is free
some-free : {X : Type 0} (xs : List (Option X)) → count_by is_some xs < length xs → 0 < count_by is_none xs
some-free {X} [] less = let none : count_by (is_some {T = X}) [] ≡ 0 = refl in absurd (omega (arith, none, less))
some-free (None ∷ xs) less = let step = sum_by-cons (λ o. cond (is_none o) 1 0) None xs in omega (arith, step)
some-free (Some x ∷ xs) less =
    let step = sum_by-cons (λ o. cond (is_some o) 1 0) (Some x) xs in
    let rest : count_by is_some xs < length xs = omega (arith, step, less) in
    let more = some-free xs rest in
    let same = sum_by-cons (λ o. cond (is_none o) 1 0) (Some x) xs in
    omega (arith, more, same)

-- with room for the blocks of one more pipe there is a free number
free-number : (v : View) → length v.pipes ≡ PIPES → nat_lt (free_blocks v) PIPE_BLOCKS ≡ false → lowest_free v.pipes < length v.pipes
free-number v long room =
    let blocks : PIPE_BLOCKS ≤ free_blocks v = ltb-false (free_blocks v) PIPE_BLOCKS room in
    first-free v.pipes (some-free v.pipes (omega (arith, long, blocks)))

nothing : {X : Type 0} (o : Option X) → is_none o ≡ true → o ≡ None
nothing None is = refl
nothing (Some x) is = cc

-- a new pipe has its element
new-element : {P : Type 0} (pipes : Pipes P) (contents : P) (element : Element) → lowest_free pipes < length pipes
    → element_at (add pipes contents element) (lowest_free pipes) ≡ Some element
new-element pipes contents element below =
    ap (option_map (λ (h : Held _). h.element))
    (get_or-set_same pipes (lowest_free pipes) (Some (record { contents = contents; element = element })) None below)

-- what a pipe(2) opens
pub opened_by_pipe : (v : View) (e : Event) (slot : ℕ) → asks_call v e slot call.Pipe → CanRun v slot
    → answer_to v e ≡ answer_of (call_row v slot call.Pipe).answer → (view_after v e).pipes ≡ (change_all v (call_row v slot call.Pipe).effects).pipes
    → length v.pipes ≡ PIPES → first (call_row v slot call.Pipe).checks ≡ None → AllOpen (Opened v e) (call_row v slot call.Pipe).effects
unfolding change_pipes change_files
opened_by_pipe v e slot asks runs says after long none =
    (tt, (end (read_end (lowest_free v.pipes)) (inl refl) refl, (end (write_end (lowest_free v.pipes)) (inr refl) refl, tt)))
  where
    k : ℕ
    k = lowest_free v.pipes

    room : nat_lt (free_blocks v) PIPE_BLOCKS ≡ false
    room =
        not-denied (nat_lt (free_blocks v) PIPE_BLOCKS) Pool
        (none-first (deny (nat_lt (free_blocks v) PIPE_BLOCKS) Pool) []
        (none-after (deny_by (room_rule v.descriptors slot 2)) (deny (nat_lt (free_blocks v) PIPE_BLOCKS) Pool ∷ []) none))

    free : element_at v.pipes k ≡ None
    free =
        ap (option_map (λ (h : Held (List ℕ)). h.element))
        (nothing (held_at v.pipes k) (passes_at_first is_none v.pipes None (free-number v long room)))

    element : element_at (view_after v e).pipes k ≡ Some (caller_of v slot).label.active
    element = ap (λ held. element_at held k) after ∙ new-element v.pipes [] (caller_of v slot).label.active (free-number v long room)

    end : (target : Target) → (target ≡ read_end (lowest_free v.pipes)) ⊎ (target ≡ write_end (lowest_free v.pipes))
        → at_offset 0 (pipes.pipe_file target) ≡ pipes.pipe_file target → Opened v e (pipes.pipe_file target)
    end target is same =
        by_pipe slot (lowest_free v.pipes) (lowest_number v.descriptors.table slot) (pipes.second_number v slot) target asks runs says is free element same
