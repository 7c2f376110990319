-- A call that puts an open file at a number leaves origins that agree with the descriptors.
use Rattle.std.proofs.Common.{◌≡◌, ℕ, suc, Bool, true, false, cond, List, [], ◌∷◌, ◌++◌, map, Option, Some, None, option_map, refl, ap, sym, subst, ◌∙◌}
use Rattle.std.proofs.Common.{arith, inl, inr, ◌⊎◌, ◌≢◌, get_or}
use Rattle.std.specs.Prelude.{◌==◌, is_none, unwrap_or}
use Rattle.std.specs.List.{position_or_len}
use Rattle.std.proofs.lemmas.Bool.Decides.{eqb_tells}
use Rattle.sys_types.specs.declared.rules.Rule.TheVariants.{Slots}
use Rattle.sys_types.specs.declared.node.Kind.{Kind}
use Rattle.sys_types.specs.declared.node.Kind.TheVariants as kind
use Rattle.call_words.specs.declared.call.Call.{Call}
use Rattle.call_words.specs.declared.call.Call.TheVariants as call
use Rattle.call_words.specs.declared.open.Access.{Access}
use Rattle.call_words.specs.declared.open.OpenFlags.{OpenFlags}
use Rattle.tree_model.specs.Contents.{with_contents}
use Rattle.tree_model.specs.Tree.{NodeRecord, WalkEnd, found, absent, missing, not_dir, name_long, path_long}
use Rattle.fd_table.specs.declared.open.Descriptor.{Descriptor}
use Rattle.fd_table.specs.Shared.{put, descriptor_at, row_of, lowest_entry, lowest_number}
use Rattle.pipe_core.specs.Pipes.{lowest_free}
use Rattle.proc_table.specs.Processes.{Processes}
use Rattle.proc_table.specs.Forks.{lowest_slot}
use Rattle.system_model.specs.Parts.{Path, Target, node, read_end, File}
use Rattle.system_model.specs.State.{NamedFile, State, view, Revokes, seen_file}
use Rattle.system_model.specs.FileEffects.{open_file, copy_fd, close_fd, change_files}
use Rattle.system_model.specs.PipeEffects.{change_pipes}
use Rattle.system_model.specs.LineEffects.{change_lines}
use Rattle.system_model.specs.TreeEffects.{set_node, change_tree}
use Rattle.system_model.specs.ProcessEffects.{change_processes}
use Rattle.system_model.specs.Effects.{Effect, on_files, on_tree, tag, tag_all}
use Rattle.system_model.specs.Rows.{answer_of, first}
use Rattle.system_model.specs.Looks.{node_at, end_of}
use Rattle.system_model.specs.OpenCalls as opens
use Rattle.system_model.specs.PipeCalls.{second_number, pipe_file}
use Rattle.system_model.specs.Step.{call_row}
use Rattle.system_laws.specs.Origins.{Origins, put_origin, fork_origins, is_child_at, origins_by}
use Rattle.system_laws.proofs.NodesKept.{none-first, not-denied}
use Rattle.system_laws.proofs.PutNumbers.{is_maker}
use Rattle.system_laws.proofs.MadeFiles.{Named, Agree, from-same}
use Rattle.system_laws.proofs.OriginEffects.{all_origins, agree_all}

-- origins that are the same agree too
pub agree-like : (o q : Origins) (t : Named) → ((slot fd : ℕ) → q slot fd ≡ o slot fd) → Agree o t → Agree q t
agree-like o q t same agree slot fd = from-same (o slot fd) (q slot fd) t.files (descriptor_at t.table slot fd) _ (same slot fd) refl (agree slot fd)

-- ---- numbers at which nothing is

lowest-none : (row : List (Option Descriptor)) → get_or row (position_or_len is_none row) None ≡ None
lowest-none [] = refl
lowest-none (None ∷ row) = refl
lowest-none (Some d ∷ row) =
    let next : position_or_len is_none (Some d ∷ row) ≡ suc (position_or_len is_none row) = omega arith in
    rw next (lowest-none row)

-- a number at which nothing is has any origin
agree-free : (o : Origins) (t : Named) (slot number : ℕ) (origin : Option ℕ) → descriptor_at t.table slot number ≡ None → Agree o t
    → Agree (put_origin o slot number origin) t
agree-free o t slot number origin none agree s n =
    elim (eqb_tells s slot) [
      | inr (a, isnt) ↦ rw a (agree s n)
      | inl (a, is) ↦ elim (eqb_tells n number) [
        | inr (b, isnt) ↦ rw (a, b) (agree s n)
        | inl (b, also) ↦
            from-same (put_origin o slot number origin s n) _ t.files None (descriptor_at t.table s n) refl
            (ap (λ k. descriptor_at t.table k n) is ∙ ap (descriptor_at t.table slot) also ∙ none) tt
      ]
    ]

agree-lowest : (o : Origins) (t : Named) (slot : ℕ) (origin : Option ℕ) → Agree o t → Agree (put_origin o slot (lowest_number t.table slot) origin) t
agree-lowest o t slot origin agree = agree-free o t slot (lowest_number t.table slot) origin (lowest-none (row_of t.table slot)) agree

-- ---- open(2)

-- after these effects the lowest free number of the slot before them has the event at position p as its origin
abbrev AgreeAfter : State → ℕ → Origins → ℕ → List Effect → Type 0
AgreeAfter s p o slot es = Agree (put_origin o slot (lowest_number s.parts.descriptors.table slot) (Some p)) (tag_all s p es).parts.descriptors

after-open : (s : State) (p slot : ℕ) (o : Origins) (access : Access) (flags : OpenFlags) (target : Target) → Agree o s.parts.descriptors
    → AgreeAfter s p o slot (opens.open_target slot access flags target ∷ [])
after-open s p slot o access flags target agree = agree_all s p (opens.open_target slot access flags target ∷ []) o agree

after-node : (s : State) (p slot : ℕ) (o : Origins) (access : Access) (flags : OpenFlags) (target : Target) (place : Path) (what : Option NodeRecord)
    → Agree o s.parts.descriptors → AgreeAfter s p o slot (on_tree (set_node place what) ∷ opens.open_target slot access flags target ∷ [])
unfolding change_tree
after-node s p slot o access flags target place what agree =
    agree_all s p (on_tree (set_node place what) ∷ opens.open_target slot access flags target ∷ []) o agree

after-tty : (s : State) (p slot : ℕ) (o : Origins) (access : Access) (flags : OpenFlags) (n : Option ℕ) → Agree o s.parts.descriptors
    → AgreeAfter s p o slot (opens.tty_effects slot access flags n)
unfolding change_lines
after-tty s p slot o access flags None agree = agree-lowest o s.parts.descriptors slot (Some p) agree
after-tty s p slot o access flags (Some n) agree = agree_all s p (opens.tty_effects slot access flags (Some n)) o agree

after-file : (s : State) (p slot : ℕ) (o : Origins) (access : Access) (flags : OpenFlags) (place : Path) (what : NodeRecord) → Agree o s.parts.descriptors
    → AgreeAfter s p o slot (opens.truncations place flags what ++ opens.open_target slot access flags (node place) ∷ [])
after-file s p slot o access flags place what agree = by_case flags.truncate
  where
    by_case : (t : Bool)
        → AgreeAfter s p o slot
        (cond t (on_tree (set_node place (Some (with_contents [] what))) ∷ []) [] ++ opens.open_target slot access flags (node place) ∷ [])
    by_case true = after-node s p slot o access flags (node place) place _ agree
    by_case false = after-open s p slot o access flags (node place) agree

after-kind : (s : State) (p slot : ℕ) (o : Origins) (access : Access) (flags : OpenFlags) (place : Path) (what : NodeRecord) (k : Kind)
    → Agree o s.parts.descriptors → AgreeAfter s p o slot (opens.kind_effects (view s) slot place access flags what k)
after-kind s p slot o access flags place what kind.File agree = after-file s p slot o access flags place what agree
after-kind s p slot o access flags place what kind.Dir agree = agree-lowest o s.parts.descriptors slot (Some p) agree
after-kind s p slot o access flags place what (kind.Line n) agree = after-tty s p slot o access flags (Some n) agree
after-kind s p slot o access flags place what kind.Tty agree = after-tty s p slot o access flags (opens.own_tty (view s) slot) agree

after-place : (s : State) (p slot : ℕ) (o : Origins) (access : Access) (flags : OpenFlags) (place : Path) (what : Option NodeRecord)
    → Agree o s.parts.descriptors → AgreeAfter s p o slot (opens.place_effects (view s) slot place access flags what)
after-place s p slot o access flags place None agree = agree-lowest o s.parts.descriptors slot (Some p) agree
after-place s p slot o access flags place (Some what) agree = after-kind s p slot o access flags place what what.kind agree

-- what a call of the slot makes of the origins, where no check stops it
abbrev pub OriginsAfter : State → ℕ → Origins → ℕ → Call → Processes Path → Type 0
OriginsAfter s p o slot c after =
    Agree (origins_by s.parts.processes after p slot c (answer_of (call_row (view s) slot c).answer) o)
    (tag_all s p (call_row (view s) slot c).effects).parts.descriptors

after-end : (s : State) (p slot : ℕ) (o : Origins) (path : List ℕ) (access : Access) (flags : OpenFlags) (mode : ℕ) (after : Processes Path) (end : WalkEnd)
    → Agree o s.parts.descriptors
    → Agree (origins_by s.parts.processes after p slot (call.Open path access flags mode) (answer_of (opens.open_at (view s) slot access flags mode end).answer) o)
    (tag_all s p (opens.open_at (view s) slot access flags mode end).effects).parts.descriptors
unfolding view
after-end s p slot o path access flags mode after (found place) agree =
    after-place s p slot o access flags place (node_at (view s) place) agree
after-end s p slot o path access flags mode after (absent dir name) agree = after-node s p slot o access flags _ _ _ agree
after-end s p slot o path access flags mode after missing agree = agree
after-end s p slot o path access flags mode after not_dir agree = agree
after-end s p slot o path access flags mode after name_long agree = agree
after-end s p slot o path access flags mode after path_long agree = agree

-- ---- pipe(2)

lowest-seen : (revokes : Revokes) (files : List (Option NamedFile)) → lowest_entry (map (option_map (seen_file revokes)) files) ≡ lowest_entry files
lowest-seen revokes [] = refl
lowest-seen revokes (None ∷ files) = refl
lowest-seen revokes (Some f ∷ files) =
    let one : lowest_entry (Some (seen_file revokes f) ∷ map (option_map (seen_file revokes)) files)
    ≡ suc (lowest_entry (map (option_map (seen_file revokes)) files)) = omega arith
    in
    let two : lowest_entry (Some f ∷ files) ≡ suc (lowest_entry files) = omega arith in
    one ∙ ap suc (lowest-seen revokes files) ∙ sym two

second-number : (s : State) (p slot : ℕ) (file : File)
    → second_number (view s) slot ≡ lowest_number (tag s p (on_files (open_file slot file false))).parts.descriptors.table slot
unfolding view change_files
second-number s p slot file =
    ap (λ entry. lowest_number (put s.parts.descriptors.table slot (lowest_number s.parts.descriptors.table slot)
    (Some (record { entry = entry; on_exec = false }))) slot)
    (lowest-seen s.revokes s.parts.descriptors.files)

after-pipe : (s : State) (p slot : ℕ) (o : Origins) (after : Processes Path) → Agree o s.parts.descriptors → OriginsAfter s p o slot call.Pipe after
unfolding view change_pipes change_files
after-pipe s p slot o after agree =
    agree-like (all_origins s p (call_row (view s) slot call.Pipe).effects o) _ (tag_all s p (call_row (view s) slot call.Pipe).effects).parts.descriptors
    (λ other fd.
    ap (λ number. put_origin (put_origin o slot (lowest_number s.parts.descriptors.table slot) (Some p)) slot number (Some p) other fd)
    (second-number s p slot (pipe_file (read_end (lowest_free s.parts.pipes)))))
    (agree_all s p (call_row (view s) slot call.Pipe).effects o agree)

-- ---- dup(2) and dup2(2)

after-dup : (s : State) (p slot fd : ℕ) (o : Origins) (after : Processes Path) → Agree o s.parts.descriptors → OriginsAfter s p o slot (call.Dup fd) after
unfolding view
after-dup s p slot fd o after agree = agree_all s p (call_row (view s) slot (call.Dup fd)).effects o agree

-- onto itself a number is copied with its own origin
put-same : (o : Origins) (slot number : ℕ) (origin : Option ℕ) → origin ≡ o slot number → (other fd : ℕ) → put_origin o slot number origin other fd ≡ o other fd
put-same o slot number origin same other fd =
    elim (eqb_tells other slot) [
      | inr (a, isnt) ↦ rw a refl
      | inl (a, is) ↦ elim (eqb_tells fd number) [
        | inr (b, isnt) ↦ rw (a, b) refl
        | inl (b, also) ↦ rw (a, b) (same ∙ ap (λ k. o k number) (sym is) ∙ ap (o other) (sym also))
      ]
    ]

after-dup2 : (s : State) (p slot fd into : ℕ) (o : Origins) (after : Processes Path) → Agree o s.parts.descriptors
    → OriginsAfter s p o slot (call.Dup2 fd into) after
after-dup2 s p slot fd into o after agree = by_tells (eqb_tells fd into)
  where
    wants : Bool → Type 0
    wants t = Agree (put_origin o slot into (o slot fd))
        (tag_all s p (cond t [] (on_files (close_fd slot into) ∷ on_files (copy_fd slot fd into) ∷ []))).parts.descriptors

    by_tells : ((fd == into) ≡ true) × (fd ≡ into) ⊎ ((fd == into) ≡ false) × (fd ≢ into) → wants (fd == into)
    by_tells (inl (is, same)) =
        subst wants (sym is) (agree-like o _ s.parts.descriptors (put-same o slot into (o slot fd) (ap (o slot) same)) agree)
    by_tells (inr (is, apart)) = subst wants (sym is) (agree_all s p (on_files (close_fd slot into) ∷ on_files (copy_fd slot fd into) ∷ []) o agree)

-- ---- fork(2)

some-slot : (o : Option ℕ) → is_none o ≡ false → (free : ℕ) × (o ≡ Some free)
some-slot None is = cc
some-slot (Some free) is = (free, refl)

fork-like : (o : Origins) (parent : ℕ) (is_child : ℕ → Bool) (into : ℕ) → ((slot : ℕ) → is_child slot ≡ (slot == into)) → (slot fd : ℕ)
    → fork_origins o parent is_child slot fd ≡ fork_origins o parent (λ other. other == into) slot fd
fork-like o parent is_child into same slot fd = rw (same slot) refl

-- the child stands in the slot that its parent's numbers are copied to
abbrev pub IsForked : Processes Path → Processes Path → Type 0
IsForked before after = (free : ℕ) → lowest_slot before ≡ Some free → (slot : ℕ) → is_child_at before after before.next_pid slot ≡ (slot == free)

after-fork : (s : State) (p slot : ℕ) (note : List ℕ) (o : Origins) (after : Processes Path) → first (call_row (view s) slot (call.Fork note)).checks ≡ None
    → IsForked s.parts.processes after → Agree o s.parts.descriptors → OriginsAfter s p o slot (call.Fork note) after
unfolding view change_processes
after-fork s p slot note o after none forked agree =
    let lowest = some-slot (lowest_slot s.parts.processes) (not-denied _ Slots (none-first _ _ none)) in
    agree-like (all_origins s p (call_row (view s) slot (call.Fork note)).effects o) _
    (tag_all s p (call_row (view s) slot (call.Fork note)).effects).parts.descriptors
    (λ other fd.
    fork-like o slot _ (unwrap_or (lowest_slot s.parts.processes) slot)
    (λ n. forked lowest.0 lowest.1 n ∙ ap (λ (free : Option ℕ). n == unwrap_or free slot) (sym lowest.1)) other fd)
    (agree_all s p (call_row (view s) slot (call.Fork note)).effects o agree)

-- ---- all of them

pub after_maker : (s : State) (p slot : ℕ) (c : Call) (o : Origins) (after : Processes Path) → is_maker c ≡ true
    → first (call_row (view s) slot c).checks ≡ None → ((note : List ℕ) → c ≡ call.Fork note → IsForked s.parts.processes after)
    → Agree o s.parts.descriptors → OriginsAfter s p o slot c after
after_maker s p slot (call.Open path access flags mode) o after is none forked agree =
    after-end s p slot o path access flags mode after (end_of (view s) slot path) agree
after_maker s p slot call.Pipe o after is none forked agree = after-pipe s p slot o after agree
after_maker s p slot (call.Dup fd) o after is none forked agree = after-dup s p slot fd o after agree
after_maker s p slot (call.Dup2 fd into) o after is none forked agree = after-dup2 s p slot fd into o after agree
after_maker s p slot (call.Fork note) o after is none forked agree = after-fork s p slot note o after none (forked note refl) agree
after_maker s p slot c o after is none forked agree = cc
