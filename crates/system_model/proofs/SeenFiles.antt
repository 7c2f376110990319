-- What calls see of the table of descriptors, after each change of it.
use Rattle.std.proofs.Common.{◌≡◌, ◌≢◌, ◌⊎◌, inl, inr, ℕ, zero, suc, ◌+◌, ◌≤◌, ◌<◌, Bool, true, false, List, [], ◌∷◌, length, map, Option, Some, None, option_map}
use Rattle.std.proofs.Common.{refl, sym, ap, ◌∙◌, subst, arith}
use Rattle.std.specs.Prelude.{slice_set, ◌==◌, ◌||◌, nat_lt}
use Rattle.std.proofs.lemmas.List.{get_or-set_same, get_or-set_other}
use Rattle.std.proofs.lemmas.Bool.Decides.{eqb_tells}
use Rattle.fd_table.specs.declared.open.Open.{Open}
use Rattle.fd_table.specs.declared.open.Target.{Target as KernelTarget}
use Rattle.fd_table.specs.declared.open.Target.TheVariants.{File as FileOf, PipeRead, PipeWrite, Line}
use Rattle.fd_table.specs.Shared.{Shared, entry_at, drop_number, last_file, change_file, count_files, map_files}
use Rattle.fd_table.specs.Shared as shared
use Rattle.fd_table.specs.Opens as opens
use Rattle.fd_table.specs.Calls.{room_rule, open_lowest}
use Rattle.fd_table.proofs.MapLemmas.{file_at-map, room_rule-map, make-map, drop_number-map, last_file-map, change_file-map, count_files-map}
use Rattle.tree_model.specs.Tree.{NodeAt}
use Rattle.system_model.specs.State.{OpenFile}
use Rattle.tree_model.specs.Numbers.{path_of}
use Rattle.system_model.specs.Parts.{node}
use Rattle.system_model.specs.Keeping.{seeing, is_tty, mark_dead}
use Rattle.system_model.specs.FileEffects.{at_offset}
use Rattle.system_model.specs.Tables.{generation_at, seen_target, is_dead_target, seen_open, seen_entries, seen_files}

-- the table is seen file by file
pub files_mapped : (nodes : List (Option NodeAt)) (revokes : List ℕ) (d : Shared Open) → seen_files nodes revokes d ≡ map_files (seen_open nodes revokes) d
unfolding seen_entries
files_mapped nodes revokes d = refl

-- the file of a number
pub file_seen : (nodes : List (Option NodeAt)) (revokes : List ℕ) (d : Shared Open) (slot fd : ℕ)
    → shared.file_at (seen_files nodes revokes d) slot fd ≡ option_map (seen_open nodes revokes) (shared.file_at d slot fd)
unfolding seen_entries
file_seen nodes revokes d slot fd = file_at-map (seen_open nodes revokes) d slot fd

-- the rule of room
pub room_seen : (nodes : List (Option NodeAt)) (revokes : List ℕ) (d : Shared Open) (slot n : ℕ) → room_rule (seen_files nodes revokes d) slot n ≡ room_rule d slot n
unfolding seen_entries
room_seen nodes revokes d slot n = room_rule-map (seen_open nodes revokes) d slot n

-- an open
pub open_seen : (nodes : List (Option NodeAt)) (revokes : List ℕ) (d : Shared Open) (slot : ℕ) (f : Open) (on_exec : Bool)
    → seen_files nodes revokes (open_lowest d slot f on_exec).0 ≡ (open_lowest (seen_files nodes revokes d) slot (seen_open nodes revokes f) on_exec).0
unfolding seen_entries
open_seen nodes revokes d slot f on_exec = make-map (seen_open nodes revokes) d slot (shared.lowest_number d.table slot) f on_exec

-- a close, and the file that it lets go
pub drop_seen : (nodes : List (Option NodeAt)) (revokes : List ℕ) (d : Shared Open) (slot fd : ℕ)
    → seen_files nodes revokes (drop_number d slot fd) ≡ drop_number (seen_files nodes revokes d) slot fd
unfolding seen_entries
drop_seen nodes revokes d slot fd = drop_number-map (seen_open nodes revokes) d slot fd

pub last_seen : (nodes : List (Option NodeAt)) (revokes : List ℕ) (d : Shared Open) (slot fd : ℕ)
    → last_file (seen_files nodes revokes d) slot fd ≡ option_map (seen_open nodes revokes) (last_file d slot fd)
unfolding seen_entries
last_seen nodes revokes d slot fd = last_file-map (seen_open nodes revokes) d slot fd

-- another offset
pub offset_seen : (nodes : List (Option NodeAt)) (revokes : List ℕ) (d : Shared Open) (slot fd offset : ℕ)
    → seen_files nodes revokes (change_file (opens.at_offset offset) d slot fd) ≡ change_file (seeing.change (at_offset offset)) (seen_files nodes revokes d) slot fd
unfolding seen_entries
offset_seen nodes revokes d slot fd offset =
    change_file-map (seen_open nodes revokes) (opens.at_offset offset) (seeing.change (at_offset offset)) (λ f. refl) d slot fd

-- how many files pass a test of what they are seen as
pub count_seen : (nodes : List (Option NodeAt)) (revokes : List ℕ) (test : OpenFile → Bool) (d : Shared Open)
    → count_files test (seen_files nodes revokes d) ≡ count_files (λ f. test (seen_open nodes revokes f)) d
unfolding seen_entries
count_seen nodes revokes test d = count_files-map (seen_open nodes revokes) test d

-- ---- a revoke

or_true : (b : Bool) → (b || true) ≡ true
or_true true = refl
or_true false = refl

or_false : (b : Bool) → (b || false) ≡ b
or_false true = refl
or_false false = refl

-- no file of the line has a generation above the line's
abbrev AreEarly : ℕ → List ℕ → List (Option Open) → Type 0
AreEarly n revokes files = (entry opened : ℕ) (f : Open) → entry_at files entry ≡ Some f → f.target ≡ Line n opened → opened ≤ generation_at revokes n

-- the line was revoked once more
abbrev pub one_more : List ℕ → ℕ → List ℕ
one_more revokes n = slice_set revokes n (generation_at revokes n + 1)

dead-here : (revokes : List ℕ) (n opened : ℕ) → n < length revokes → opened ≤ generation_at revokes n → nat_lt opened (generation_at (one_more revokes n) n) ≡ true
dead-here revokes n opened inside early =
    let is : generation_at (one_more revokes n) n ≡ generation_at revokes n + 1 = get_or-set_same revokes n (generation_at revokes n + 1) 0 inside in
    rw is (grind arith)

dead-line : (revokes : List ℕ) (n line opened : ℕ) → n < length revokes → (line ≡ n → opened ≤ generation_at revokes line)
    → nat_lt opened (generation_at (one_more revokes n) line) ≡ (nat_lt opened (generation_at revokes line) || (line == n))
dead-line revokes n line opened inside early = by_case (eqb_tells line n)
  where
    by_case : ((line == n) ≡ true) × (line ≡ n) ⊎ ((line == n) ≡ false) × (line ≢ n)
        → nat_lt opened (generation_at (one_more revokes n) line) ≡ (nat_lt opened (generation_at revokes line) || (line == n))
    by_case (inl same) =
        rw same.0
        (rw (or_true (nat_lt opened (generation_at revokes line)))
        (subst (λ k. nat_lt opened (generation_at (one_more revokes n) k) ≡ true) (sym same.1)
        (dead-here revokes n opened inside (subst (λ k. opened ≤ generation_at revokes k) same.1 (early same.1)))))
    by_case (inr other) =
        rw other.0
        (rw (or_false (nat_lt opened (generation_at revokes line)))
        (ap (nat_lt opened) (get_or-set_other revokes n line (generation_at revokes n + 1) 0 other.1)))

dead-target : (nodes : List (Option NodeAt)) (revokes : List ℕ) (n : ℕ) (target : KernelTarget) → n < length revokes
    → ((opened : ℕ) → target ≡ Line n opened → opened ≤ generation_at revokes n)
    → is_dead_target (one_more revokes n) target ≡ (is_dead_target revokes target || is_tty n (seen_target nodes target))
dead-target nodes revokes n (FileOf number) inside early = refl
dead-target nodes revokes n (PipeRead k) inside early = refl
dead-target nodes revokes n (PipeWrite k) inside early = refl
dead-target nodes revokes n (Line line opened) inside early =
    dead-line revokes n line opened inside
    (λ same. subst (λ k. opened ≤ generation_at revokes k) (sym same) (early opened (ap (λ k. Line k opened) same)))

dead-file : (nodes : List (Option NodeAt)) (revokes : List ℕ) (n : ℕ) (f : Open) → n < length revokes
    → ((opened : ℕ) → f.target ≡ Line n opened → opened ≤ generation_at revokes n)
    → seen_open nodes (one_more revokes n) f ≡ mark_dead n (seen_open nodes revokes f)
dead-file nodes revokes n f inside early =
    ap (λ dead. record (seen_open nodes revokes f) { dead = dead }) (dead-target nodes revokes n f.target inside early)

dead-files : (nodes : List (Option NodeAt)) (revokes : List ℕ) (n : ℕ) (files : List (Option Open)) → n < length revokes → AreEarly n revokes files
    → map (option_map (seen_open nodes (one_more revokes n))) files ≡ map (option_map (mark_dead n)) (map (option_map (seen_open nodes revokes)) files)
dead-files nodes revokes n [] inside early = refl
dead-files nodes revokes n (None ∷ files) inside early =
    ap (λ fs. None ∷ fs) (dead-files nodes revokes n files inside (λ entry opened f. early (suc entry) opened f))
dead-files nodes revokes n (Some f ∷ files) inside early =
    ap (λ x. Some x ∷ map (option_map (seen_open nodes (one_more revokes n))) files) (dead-file nodes revokes n f inside (λ opened. early zero opened f refl))
    ∙ ap (λ fs. Some (mark_dead n (seen_open nodes revokes f)) ∷ fs) (dead-files nodes revokes n files inside (λ entry opened f. early (suc entry) opened f))

-- every file of a line is dead from then on
pub revoke_seen : (nodes : List (Option NodeAt)) (revokes : List ℕ) (n : ℕ) (d : Shared Open) → n < length revokes
    → ((entry opened : ℕ) (f : Open) → entry_at d.files entry ≡ Some f → f.target ≡ Line n opened → opened ≤ generation_at revokes n)
    → seen_files nodes (one_more revokes n) d ≡ map_files (mark_dead n) (seen_files nodes revokes d)
unfolding seen_entries
revoke_seen nodes revokes n d inside early =
    ap (λ (files : List (Option OpenFile)). record { table = d.table; files = files }) (dead-files nodes revokes n d.files inside early)

-- ---- other nodes

-- the target of each file has the same path
same-target : (old new : List (Option NodeAt)) (target : KernelTarget) → ((number : ℕ) → target ≡ FileOf number → path_of new number ≡ path_of old number)
    → seen_target new target ≡ seen_target old target
same-target old new (FileOf number) same = ap node (same number refl)
same-target old new (PipeRead k) same = refl
same-target old new (PipeWrite k) same = refl
same-target old new (Line line opened) same = refl

same-open : (old new : List (Option NodeAt)) (revokes : List ℕ) (f : Open) → ((number : ℕ) → f.target ≡ FileOf number → path_of new number ≡ path_of old number)
    → seen_open new revokes f ≡ seen_open old revokes f
same-open old new revokes f same =
    ap (λ target. record (seen_open old revokes f) { file = record ((seen_open old revokes f).file) { target = target } }) (same-target old new f.target same)

same-entries : (old new : List (Option NodeAt)) (revokes : List ℕ) (files : List (Option Open))
    → ((entry number : ℕ) (f : Open) → entry_at files entry ≡ Some f → f.target ≡ FileOf number → path_of new number ≡ path_of old number)
    → map (option_map (seen_open new revokes)) files ≡ map (option_map (seen_open old revokes)) files
same-entries old new revokes [] same = refl
same-entries old new revokes (None ∷ files) same =
    ap (λ fs. None ∷ fs) (same-entries old new revokes files (λ entry number f. same (suc entry) number f))
same-entries old new revokes (Some f ∷ files) same =
    ap (λ x. Some x ∷ map (option_map (seen_open new revokes)) files) (same-open old new revokes f (λ number. same zero number f refl))
    ∙ ap (λ fs. Some (seen_open old revokes f) ∷ fs) (same-entries old new revokes files (λ entry number f. same (suc entry) number f))

-- the open files are as they were where the nodes that they are of have the same paths
pub paths_seen : (old new : List (Option NodeAt)) (revokes : List ℕ) (d : Shared Open)
    → ((entry number : ℕ) (f : Open) → entry_at d.files entry ≡ Some f → f.target ≡ FileOf number → path_of new number ≡ path_of old number)
    → seen_files new revokes d ≡ seen_files old revokes d
unfolding seen_entries
paths_seen old new revokes d same =
    ap (λ (files : List (Option OpenFile)). record { table = d.table; files = files }) (same-entries old new revokes d.files same)
