-- What the table of descriptors is once a file was opened, and that the tables fit it.
use Rattle.std.proofs.Common.{◌≡◌, ◌≢◌, ◌⊎◌, inl, inr, ⊎_elim, ℕ, zero, suc, ◌+◌, ◌<◌, Bool}
use Rattle.std.proofs.Common.{true, false, cond, not, List, [], ◌∷◌, length, get_or, set, Option, Some, None}
use Rattle.std.proofs.Common.{refl, sym, ap, ◌∙◌, subst, arith}
use Rattle.std.specs.Prelude.{◌==◌, is_some, count_by}
use Rattle.std.proofs.lemmas.List.Sums.{sum_by-set}
use Rattle.block_pool.specs.Chain.{ChainState}
use Rattle.fd_table.specs.declared.open.Open.{Open}
use Rattle.fd_table.specs.declared.open.Descriptor.{Descriptor}
use Rattle.fd_table.specs.declared.open.Target.{Target as KernelTarget}
use Rattle.fd_table.specs.declared.open.Target.TheVariants.{File as FileOf, PipeRead, PipeWrite, Line}
use Rattle.fd_table.specs.Shared.{Shared, Table, put, descriptor_at, entry_at, lowest_number, lowest_entry, free_entries, holds, count_files}
use Rattle.fd_table.specs.Calls.{open_lowest}
use Rattle.fd_table.proofs.KeptLemmas.{free-entry}
use Rattle.fd_table.proofs.TableLemmas.{first-free}
use Rattle.pipe_core.specs.Pipes.{Pipes}
use Rattle.proc_table.specs.Processes.{Processes, running_at}
use Rattle.tree_model.specs.Tree.{NodeAt}
use Rattle.tree_model.specs.Numbers.{IsFile}
use Rattle.tty_dev.specs.History.{Counts}
use Rattle.system_model.specs.Tables.{generations}
use Rattle.system_model.specs.Fit.{is_end_of, is_live_file, FitFiles, FitSlots, FitPipes, FitLines}

-- what a descriptor is after another was put
row-put : (row : List (Option Descriptor)) (i n : ℕ) (w : Option Descriptor) (x : Descriptor) → get_or (set row i w) n None ≡ Some x
    → (get_or row n None ≡ Some x) ⊎ (w ≡ Some x)
row-put [] i n w x is = inl is
row-put (y ∷ row) zero zero w x is = inr is
row-put (y ∷ row) zero (suc n) w x is = inl is
row-put (y ∷ row) (suc i) zero w x is = inl is
row-put (y ∷ row) (suc i) (suc n) w x is = row-put row i n w x is

table-put : (table : Table) (slot i s n : ℕ) (w : Option Descriptor) (x : Descriptor) → descriptor_at (put table slot i w) s n ≡ Some x
    → (descriptor_at table s n ≡ Some x) ⊎ ((s ≡ slot) × (w ≡ Some x))
table-put [] slot i s n w x is = inl is
table-put (row ∷ table) zero i zero n w x is =
    ⊎_elim (λ (was : get_or row n None ≡ Some x). inl was) (λ (new : w ≡ Some x). inr (refl, new)) (row-put row i n w x is)
table-put (row ∷ table) zero i (suc s) n w x is = inl is
table-put (row ∷ table) (suc slot) i zero n w x is = inl is
table-put (row ∷ table) (suc slot) i (suc s) n w x is =
    ⊎_elim (λ (was : descriptor_at table s n ≡ Some x). inl was) (λ (new : (s ≡ slot) × (w ≡ Some x)). inr (ap suc new.0, new.1)) (table-put table slot i s n w x is)

abbrev pub bit : Bool → ℕ
bit b = cond b 1 0

-- a table in which this file was opened in a slot
pub record IsOpened (d after : Shared Open) (slot : ℕ) (f : Open) : Type 0 where
  pub counts : (test : Open → Bool) → count_files test after ≡ count_files test d + bit (test f)
  pub entries : (entry : ℕ) (g : Open) → entry_at after.files entry ≡ Some g → (entry_at d.files entry ≡ Some g) ⊎ (f ≡ g)
  pub table : (s n : ℕ) (x : Descriptor) → descriptor_at after.table s n ≡ Some x → (descriptor_at d.table s n ≡ Some x) ⊎ (s ≡ slot)

entries-set : (files : List (Option Open)) (i entry : ℕ) (f g : Open) → get_or (set files i (Some f)) entry None ≡ Some g
    → (get_or files entry None ≡ Some g) ⊎ (f ≡ g)
entries-set [] i entry f g is = inl is
entries-set (x ∷ files) zero zero f g is = inr cc
entries-set (x ∷ files) zero (suc entry) f g is = inl is
entries-set (x ∷ files) (suc i) zero f g is = inl is
entries-set (x ∷ files) (suc i) (suc entry) f g is = entries-set files i entry f g is

counts-set : (test : Open → Bool) (files : List (Option Open)) (i : ℕ) (f : Open) → i < length files → get_or files i None ≡ None
    → count_by (holds test) (set files i (Some f)) ≡ count_by (holds test) files + bit (test f)
counts-set test files i f inside none =
    let all = sum_by-set (λ (o : Option Open). bit (holds test o)) files i (Some f) None inside in
    let was : bit (holds test (get_or files i None)) ≡ 0 = ap (λ o. bit (holds test o)) none in
    omega (arith, all, was)

-- an open at the lowest free number, where an entry is free
pub opened : (d : Shared Open) (slot : ℕ) (f : Open) (on_exec : Bool) → 0 < free_entries d.files → IsOpened d (open_lowest d slot f on_exec).0 slot f
opened d slot f on_exec room =
    let inside = first-free d.files room in
    record {
      counts = λ test. counts-set test d.files (lowest_entry d.files) f inside (free-entry d.files inside);
      entries = λ entry g is. entries-set d.files (lowest_entry d.files) entry f g is;
      table =
          λ s n x is.
          ⊎_elim (λ (was : descriptor_at d.table s n ≡ Some x). inl was)
          (λ (new : (s ≡ slot) × (Some (record { entry = lowest_entry d.files; on_exec = on_exec }) ≡ Some x)). inr new.0)
          (table-put d.table slot (lowest_number d.table slot) s n (Some (record { entry = lowest_entry d.files; on_exec = on_exec })) x is);
    }

-- ---- what fits

pub files_opened : (nodes : List (Option NodeAt)) (d after : Shared Open) (slot : ℕ) (f : Open) → IsOpened d after slot f
    → ((number : ℕ) → f.target ≡ FileOf number → IsFile nodes number) → FitFiles nodes d → FitFiles nodes after
files_opened nodes d after slot f is live fit = record {
  live =
      λ entry number g at of.
      ⊎_elim (λ (was : entry_at d.files entry ≡ Some g). fit.live entry number g was of) (λ (new : f ≡ g). live number (ap (λ h. h.target) new ∙ of))
      (is.entries entry g at);
}

pub slots_opened : (d after : Shared Open) (slot : ℕ) (f : Open) (processes : Processes ℕ) → IsOpened d after slot f
    → is_some (running_at processes slot) ≡ true
    → FitSlots d processes → FitSlots after processes
slots_opened d after slot f processes is running fit = record {
  running =
      λ s n x at.
      ⊎_elim (λ (was : descriptor_at d.table s n ≡ Some x). fit.running s n x was)
      (λ (new : s ≡ slot). subst (λ k. is_some (running_at processes k) ≡ true) (sym new) running) (is.table s n x at);
}

-- a file that is of no pipe
pub pipes_opened : (d after : Shared Open) (slot : ℕ) (f : Open) (pipes : Pipes ChainState) → IsOpened d after slot f → ((k : ℕ) → is_end_of k f.target ≡ false)
    → FitPipes d pipes → FitPipes after pipes
pipes_opened d after slot f pipes is none fit = record {
  places = fit.places;
  ends =
      λ k.
      (let all = is.counts (λ g. is_end_of k g.target) in
      let not_end : bit (is_end_of k f.target) ≡ 0 = ap bit (none k) in
      let same : count_files (λ g. is_end_of k g.target) d ≡ count_files (λ g. is_end_of k g.target) after = omega (arith, all, not_end) in
      fit.ends k ∙ ap (λ n. not (n == 0)) same);
}

-- a file that is of no line
pub lines_opened : (d after : Shared Open) (slot : ℕ) (f : Open) (counts : List Counts) (boots : List Bool) → IsOpened d after slot f
    → ((n opened : ℕ) → f.target ≢ Line n opened) → FitLines d counts boots → FitLines after counts boots
lines_opened d after slot f counts boots is none fit = record {
  lines = fit.lines;
  live =
      λ n below.
      (let all = is.counts (λ g. is_live_file (generations counts) n g.target) in
      let not_live : bit (is_live_file (generations counts) n f.target) ≡ 0 = ap bit (never n f.target none) in
      fit.live n below ∙ omega (arith, all, not_live));
  there =
      λ entry n opened g at of.
      ⊎_elim (λ (was : entry_at d.files entry ≡ Some g). fit.there entry n opened g was of)
      (λ (new : f ≡ g). absurd (none n opened (ap (λ h. h.target) new ∙ of))) (is.entries entry g at);
  early =
      λ entry n opened g at of.
      ⊎_elim (λ (was : entry_at d.files entry ≡ Some g). fit.early entry n opened g was of)
      (λ (new : f ≡ g). absurd (none n opened (ap (λ h. h.target) new ∙ of))) (is.entries entry g at);
  cooked = fit.cooked;
}
  where
    never : (n : ℕ) (target : KernelTarget) → ((m opened : ℕ) → target ≢ Line m opened) → is_live_file (generations counts) n target ≡ false
    never n (FileOf number) other = refl
    never n (PipeRead k) other = refl
    never n (PipeWrite k) other = refl
    never n (Line m since) other = absurd (other m since refl)
