-- The row of dup2(2), over the tables of a kernel.
use Rattle.std.proofs.Common.{◌≡◌, ◌⊎◌, inl, inr, ⊎_elim, ℕ, zero, suc, Bool, true, false, cond, List, [], ◌∷◌, get_or, set, Option, Some, None, option_map, Result, Ok, Err}
use Rattle.std.proofs.Common.{refl, sym, ap, ◌∙◌, subst, arith}
use Rattle.std.specs.Prelude.{◌==◌, is_none, is_some, nat_le}
use Rattle.sys_types.specs.declared.limits.TheConstants.{DESCRIPTORS}
use Rattle.sys_types.specs.declared.rules.Rule.{Rule}
use Rattle.sys_types.specs.declared.rules.Rule.TheVariants.{BadFd}
use Rattle.call_words.specs.declared.event.Decision.TheVariants.{Answer}
use Rattle.call_words.specs.declared.event.Reply.TheVariants.{Num, Denied}
use Rattle.fd_table.specs.declared.open.Open.{Open}
use Rattle.fd_table.specs.declared.open.Descriptor.{Descriptor}
use Rattle.fd_table.specs.Shared.{Shared, Table, descriptor_at, put, without_mark, copy, drop_number, last_file, count_files}
use Rattle.proc_table.specs.Processes.{Processes, running_at}
use Rattle.system_model.specs.Fit.{FitSlots}
use Rattle.fd_table.specs.Shared as shared
use Rattle.pipe_core.specs.Pipes.{remove}
use Rattle.line_disc.specs.Device.{close_last}
use Rattle.line_disc.specs.Lines.{change_line}
use Rattle.fd_table.specs.Calls as calls
use Rattle.tty_dev.specs.Table.{counts_of}
use Rattle.system_model.specs.Parts.{Target, node, read_end, write_end, tty}
use Rattle.system_model.specs.State.{View}
use Rattle.system_model.specs.Keeping.{seeing, is_end_of, is_live_of}
use Rattle.system_model.specs.FileEffects.{copy_fd, change_files, release_target}
use Rattle.system_model.specs.Effects.{on_files, change}
use Rattle.system_model.specs.Rows.{Does}
use Rattle.system_model.specs.OpenCalls.{dup2_row}
use Rattle.system_model.specs.Tables.{Tables, generations, is_dead_target, seen_target, view_of}
use Rattle.system_model.proofs.ClosingLemmas.{closes_none, closes_some}
use Rattle.system_model.proofs.DropLemmas.{IsLeft, drop_left, slots_left}
use Rattle.system_model.proofs.FileLooks.{closed_seen}
use Rattle.system_model.proofs.RowLemmas.{refuses, goes_on}

-- ---- what a release makes of a view does not depend on the numbers

abbrev copies : View → ℕ → ℕ → ℕ → View
copies v slot fd to = record v { descriptors = copy v.descriptors slot fd to }

pub release_copies : (v : View) (slot fd to : ℕ) (dead : Bool) (target : Target)
    → release_target seeing (record v { descriptors = copy v.descriptors slot fd to }) dead target
    ≡ record (release_target seeing v dead target) { descriptors = copy (release_target seeing v dead target).descriptors slot fd to }
release_copies v slot fd to dead (node path) = refl
release_copies v slot fd to dead (read_end k) = by_last (count_files (is_end_of seeing k) v.descriptors == 0)
  where
    by_last : (b : Bool) → cond b (record (copies v slot fd to) { pipes = remove v.pipes k }) (copies v slot fd to)
        ≡ copies (cond b (record v { pipes = remove v.pipes k }) v) slot fd to
    by_last true = refl
    by_last false = refl
release_copies v slot fd to dead (write_end k) = by_last (count_files (is_end_of seeing k) v.descriptors == 0)
  where
    by_last : (b : Bool) → cond b (record (copies v slot fd to) { pipes = remove v.pipes k }) (copies v slot fd to)
        ≡ copies (cond b (record v { pipes = remove v.pipes k }) v) slot fd to
    by_last true = refl
    by_last false = refl
release_copies v slot fd to true (tty n) = refl
release_copies v slot fd to false (tty n) = by_last (count_files (is_live_of seeing n) v.descriptors == 0)
  where
    by_last : (b : Bool) → cond b (record (copies v slot fd to) { lines = change_line close_last v.lines n }) (copies v slot fd to)
        ≡ copies (cond b (record v { lines = change_line close_last v.lines n }) v) slot fd to
    by_last true = refl
    by_last false = refl

copies_after : (v : View) (slot fd to : ℕ) (dead : Bool) (target : Target)
    → release_target seeing (change v (on_files (copy_fd slot fd to))) dead target ≡ change (release_target seeing v dead target) (on_files (copy_fd slot fd to))
unfolding change_files
copies_after v slot fd to dead target = release_copies v slot fd to dead target

-- ---- the table of descriptors

abbrev Moved : Type 0
Moved = Shared Open × Result (Option Open) Rule

abbrev pub moved : Shared Open → ℕ → ℕ → ℕ → Moved
moved d slot fd to = (copy (drop_number d slot to) slot fd to, Ok (last_file d slot to))

-- how the call decides
abbrev decided : Bool → Bool → Bool → Shared Open → ℕ → ℕ → ℕ → Moved
decided shut far same d slot fd to =
    cond shut (d, Err BadFd) (cond far (d, Err BadFd) (cond same (d, Ok None) (moved d slot fd to)))

err-err : (a b : Rule) (answer : Result (Option Open) Rule) → answer ≡ Err a → answer ≡ Err b → a ≡ b
err-err a b answer is same = cc

err-ok : (rule : Rule) (last : Option Open) (answer : Result (Option Open) Rule) → answer ≡ Err rule → answer ≡ Ok last → ⊥
err-ok rule last answer err ok = cc

ok-ok : (x y : Option Open) (answer : Result (Option Open) Rule) → answer ≡ Ok x → answer ≡ Ok y → x ≡ y
ok-ok x y answer is same = cc

-- nothing is dropped
still : (d : Shared Open) → IsLeft d d None
still d = record {
  counts = λ test. omega arith;
  entries = λ entry f is. is;
  from = λ f is. cc;
}

moves-left : (d : Shared Open) (slot fd to : ℕ) → IsLeft d (moved d slot fd to).0 (last_file d slot to)
moves-left d slot fd to =
    let left = drop_left d slot to in
    record {
      counts = left.counts;
      entries = left.entries;
      from = left.from;
    }

left-by : (shut far same : Bool) (d : Shared Open) (slot fd to : ℕ) (p : Moved) (last : Option Open) → p ≡ decided shut far same d slot fd to → p.1 ≡ Ok last
    → IsLeft d p.0 last
left-by true far same d slot fd to p last is ok = absurd (err-ok BadFd last p.1 (ap (λ (q : Moved). q.1) is) ok)
left-by false true same d slot fd to p last is ok = absurd (err-ok BadFd last p.1 (ap (λ (q : Moved). q.1) is) ok)
left-by false false true d slot fd to p last is ok =
    subst (λ l. IsLeft d p.0 l) (ok-ok None last p.1 (ap (λ (q : Moved). q.1) is) ok) (subst (λ e. IsLeft d e None) (sym (ap (λ (q : Moved). q.0) is)) (still d))
left-by false false false d slot fd to p last is ok =
    subst (λ l. IsLeft d p.0 l) (ok-ok (last_file d slot to) last p.1 (ap (λ (q : Moved). q.1) is) ok)
    (subst (λ e. IsLeft d e (last_file d slot to)) (sym (ap (λ (q : Moved). q.0) is)) (moves-left d slot fd to))

-- what is left of the table, and the file that goes
pub dup2_left : (d left : Shared Open) (slot fd to : ℕ) (last : Option Open) (answer : Result (Option Open) Rule) → (left, answer) ≡ calls.dup2 d slot fd to → answer ≡ Ok last
    → IsLeft d left last
dup2_left d left slot fd to last answer is ok =
    left-by (is_none (shared.file_at d slot fd)) (nat_le DESCRIPTORS to) (fd == to) d slot fd to (left, answer) last is ok

-- ---- the row

-- the number is not open, or the other is too great
denied-by : (shut far same : Bool) (t : Tables) (slot fd to : ℕ) (p : Moved) (rule : Rule) → is_none (shared.file_at t.descriptors slot fd) ≡ shut → nat_le DESCRIPTORS to ≡ far
    → p ≡ decided shut far same t.descriptors slot fd to → p.1 ≡ Err rule
    → Does (view_of t) (view_of (record t { descriptors = p.0 })) (Answer (Denied rule)) (dup2_row (view_of t) slot fd to)
denied-by true far same t slot fd to p rule shut is_far is err =
    let named : BadFd ≡ rule = err-err BadFd rule p.1 (ap (λ (q : Moved). q.1) is) err in
    subst (λ r. Does (view_of t) (view_of (record t { descriptors = p.0 })) (Answer (Denied r)) (dup2_row (view_of t) slot fd to)) named
    (subst (λ d. Does (view_of t) (view_of (record t { descriptors = d })) (Answer (Denied BadFd)) (dup2_row (view_of t) slot fd to)) (sym (ap (λ (q : Moved). q.0) is))
    (refuses (view_of t) (dup2_row (view_of t) slot fd to) BadFd (rw (closed_seen t slot fd ∙ shut) refl)))
denied-by false true same t slot fd to p rule shut is_far is err =
    let named : BadFd ≡ rule = err-err BadFd rule p.1 (ap (λ (q : Moved). q.1) is) err in
    subst (λ r. Does (view_of t) (view_of (record t { descriptors = p.0 })) (Answer (Denied r)) (dup2_row (view_of t) slot fd to)) named
    (subst (λ d. Does (view_of t) (view_of (record t { descriptors = d })) (Answer (Denied BadFd)) (dup2_row (view_of t) slot fd to)) (sym (ap (λ (q : Moved). q.0) is))
    (refuses (view_of t) (dup2_row (view_of t) slot fd to) BadFd (rw (closed_seen t slot fd ∙ shut, is_far) refl)))
denied-by false false true t slot fd to p rule shut is_far is err = absurd (err-ok rule None p.1 err (ap (λ (q : Moved). q.1) is))
denied-by false false false t slot fd to p rule shut is_far is err =
    absurd (err-ok rule (last_file t.descriptors slot to) p.1 err (ap (λ (q : Moved). q.1) is))

pub dup2_denied : (t : Tables) (slot fd to : ℕ) (left : Shared Open) (answer : Result (Option Open) Rule) (rule : Rule) → (left, answer) ≡ calls.dup2 t.descriptors slot fd to
    → answer ≡ Err rule → Does (view_of t) (view_of (record t { descriptors = left })) (Answer (Denied rule)) (dup2_row (view_of t) slot fd to)
dup2_denied t slot fd to left answer rule is err =
    denied-by (is_none (shared.file_at t.descriptors slot fd)) (nat_le DESCRIPTORS to) (fd == to) t slot fd to (left, answer) rule refl refl is err

-- a descriptor is put into a table: what is there is that, in this slot, or was there before
row-put : (row : List (Option Descriptor)) (i n : ℕ) (w : Option Descriptor) (x : Descriptor) → get_or (set row i w) n None ≡ Some x
    → (get_or row n None ≡ Some x) ⊎ (w ≡ Some x)
row-put [] i n w x is = inl is
row-put (y ∷ row) zero zero w x is = inr is
row-put (y ∷ row) zero (suc n) w x is = inl is
row-put (y ∷ row) (suc i) zero w x is = inl is
row-put (y ∷ row) (suc i) (suc n) w x is = row-put row i n w x is

pub table-put : (table : Table) (slot i s n : ℕ) (w : Option Descriptor) (x : Descriptor) → descriptor_at (put table slot i w) s n ≡ Some x
    → (descriptor_at table s n ≡ Some x) ⊎ ((s ≡ slot) × (w ≡ Some x))
table-put [] slot i s n w x is = inl is
table-put (row ∷ table) zero i zero n w x is =
    ⊎_elim (λ (was : get_or row n None ≡ Some x). inl was) (λ (new : w ≡ Some x). inr (refl, new)) (row-put row i n w x is)
table-put (row ∷ table) zero i (suc s) n w x is = inl is
table-put (row ∷ table) (suc slot) i zero n w x is = inl is
table-put (row ∷ table) (suc slot) i (suc s) n w x is =
    ⊎_elim (λ (was : descriptor_at table s n ≡ Some x). inl was) (λ (new : (s ≡ slot) × (w ≡ Some x)). inr (ap suc new.0, new.1)) (table-put table slot i s n w x is)

running-copy : (d : Shared Open) (slot fd : ℕ) (processes : Processes ℕ) (x : Descriptor) → FitSlots d processes → (o : Option Descriptor) → descriptor_at d.table slot fd ≡ o
    → option_map without_mark o ≡ Some x → is_some (running_at processes slot) ≡ true
running-copy d slot fd processes x fit None at is = absurd cc
running-copy d slot fd processes x fit (Some y) at is = fit.running slot fd y at

-- a copy is in a slot that has a descriptor
pub slots_copied : (d : Shared Open) (slot fd to : ℕ) (processes : Processes ℕ) → FitSlots d processes → FitSlots (copy d slot fd to) processes
slots_copied d slot fd to processes fit = record {
  running =
      λ s n x is.
      ⊎_elim (λ (was : descriptor_at d.table s n ≡ Some x). fit.running s n x was)
      (λ (new : (s ≡ slot) × (option_map without_mark (descriptor_at d.table slot fd) ≡ Some x)).
      subst (λ k. is_some (running_at processes k) ≡ true) (sym new.0) (running-copy d slot fd processes x fit (descriptor_at d.table slot fd) refl new.1))
      (table-put d.table slot to s n (option_map without_mark (descriptor_at d.table slot fd)) x is);
}

slots-by : (shut far same : Bool) (d : Shared Open) (slot fd to : ℕ) (processes : Processes ℕ) (p : Moved) → p ≡ decided shut far same d slot fd to → FitSlots d processes
    → FitSlots p.0 processes
slots-by true far same d slot fd to processes p is fit = subst (λ e. FitSlots e processes) (sym (ap (λ (q : Moved). q.0) is)) fit
slots-by false true same d slot fd to processes p is fit = subst (λ e. FitSlots e processes) (sym (ap (λ (q : Moved). q.0) is)) fit
slots-by false false true d slot fd to processes p is fit = subst (λ e. FitSlots e processes) (sym (ap (λ (q : Moved). q.0) is)) fit
slots-by false false false d slot fd to processes p is fit =
    subst (λ e. FitSlots e processes) (sym (ap (λ (q : Moved). q.0) is))
    (slots_copied (drop_number d slot to) slot fd to processes (slots_left d slot to processes fit))

pub dup2_slots : (d left : Shared Open) (slot fd to : ℕ) (processes : Processes ℕ) (answer : Result (Option Open) Rule) → (left, answer) ≡ calls.dup2 d slot fd to
    → FitSlots d processes → FitSlots left processes
dup2_slots d left slot fd to processes answer is fit =
    slots-by (is_none (shared.file_at d slot fd)) (nat_le DESCRIPTORS to) (fd == to) d slot fd to processes (left, answer) is fit

-- a refused call leaves the table
stays-by : (shut far same : Bool) (d : Shared Open) (slot fd to : ℕ) (p : Moved) (rule : Rule) → p ≡ decided shut far same d slot fd to → p.1 ≡ Err rule → p.0 ≡ d
stays-by true far same d slot fd to p rule is err = ap (λ (q : Moved). q.0) is
stays-by false true same d slot fd to p rule is err = ap (λ (q : Moved). q.0) is
stays-by false false true d slot fd to p rule is err = absurd (err-ok rule None p.1 err (ap (λ (q : Moved). q.1) is))
stays-by false false false d slot fd to p rule is err = absurd (err-ok rule (last_file d slot to) p.1 err (ap (λ (q : Moved). q.1) is))

pub dup2_stays : (d left : Shared Open) (slot fd to : ℕ) (answer : Result (Option Open) Rule) (rule : Rule) → (left, answer) ≡ calls.dup2 d slot fd to → answer ≡ Err rule → left ≡ d
dup2_stays d left slot fd to answer rule is err =
    stays-by (is_none (shared.file_at d slot fd)) (nat_le DESCRIPTORS to) (fd == to) d slot fd to (left, answer) rule is err

-- ---- it is done

copied_as : (t : Tables) (d : Shared Open) (slot fd to : ℕ)
    → view_of (record t { descriptors = copy d slot fd to }) ≡ change (view_of (record t { descriptors = d })) (on_files (copy_fd slot fd to))
unfolding view_of change_files
copied_as t d slot fd to = refl

-- no file goes
none-by : (shut far same : Bool) (t : Tables) (slot fd to : ℕ) (p : Moved) → is_none (shared.file_at t.descriptors slot fd) ≡ shut → nat_le DESCRIPTORS to ≡ far
    → (fd == to) ≡ same → p ≡ decided shut far same t.descriptors slot fd to → p.1 ≡ Ok None
    → Does (view_of t) (view_of (record t { descriptors = p.0 })) (Answer (Num to)) (dup2_row (view_of t) slot fd to)
none-by true far same t slot fd to p shut is_far is_same is ok = absurd (err-ok BadFd None p.1 (ap (λ (q : Moved). q.1) is) ok)
none-by false true same t slot fd to p shut is_far is_same is ok = absurd (err-ok BadFd None p.1 (ap (λ (q : Moved). q.1) is) ok)
none-by false false true t slot fd to p here is_far is_same is ok =
    subst (λ d. Does (view_of t) (view_of (record t { descriptors = d })) (Answer (Num to)) (dup2_row (view_of t) slot fd to)) (sym (ap (λ (q : Moved). q.0) is))
    (goes_on (view_of t) (view_of t) (dup2_row (view_of t) slot fd to) (rw (closed_seen t slot fd ∙ here, is_far) refl) (rw is_same refl))
none-by false false false t slot fd to p here is_far is_same is ok =
    (let none = ok-ok (last_file t.descriptors slot to) None p.1 (ap (λ (q : Moved). q.1) is) ok in
    subst (λ d. Does (view_of t) (view_of (record t { descriptors = d })) (Answer (Num to)) (dup2_row (view_of t) slot fd to)) (sym (ap (λ (q : Moved). q.0) is))
    (goes_on (view_of t) _ (dup2_row (view_of t) slot fd to) (rw (closed_seen t slot fd ∙ here, is_far) refl)
    (rw is_same (copied_as t (drop_number t.descriptors slot to) slot fd to ∙ ap (λ v. change v (on_files (copy_fd slot fd to))) (closes_none t slot to none)))))

pub dup2_done : (t : Tables) (slot fd to : ℕ) (left : Shared Open) (answer : Result (Option Open) Rule) → (left, answer) ≡ calls.dup2 t.descriptors slot fd to → answer ≡ Ok None
    → Does (view_of t) (view_of (record t { descriptors = left })) (Answer (Num to)) (dup2_row (view_of t) slot fd to)
dup2_done t slot fd to left answer is ok =
    none-by (is_none (shared.file_at t.descriptors slot fd)) (nat_le DESCRIPTORS to) (fd == to) t slot fd to (left, answer) refl refl refl is ok

-- a file goes, and is released
some-by : (shut far same : Bool) (t : Tables) (slot fd to : ℕ) (p : Moved) (f : Open) (new : View) → is_none (shared.file_at t.descriptors slot fd) ≡ shut
    → nat_le DESCRIPTORS to ≡ far → (fd == to) ≡ same → p ≡ decided shut far same t.descriptors slot fd to → p.1 ≡ Ok (Some f)
    → new ≡ release_target seeing (view_of (record t { descriptors = p.0 })) (is_dead_target (generations (counts_of t.lines)) f.target) (seen_target t.nodes f.target)
    → Does (view_of t) new (Answer (Num to)) (dup2_row (view_of t) slot fd to)
some-by true far same t slot fd to p f new shut is_far is_same is ok released = absurd (err-ok BadFd (Some f) p.1 (ap (λ (q : Moved). q.1) is) ok)
some-by false true same t slot fd to p f new shut is_far is_same is ok released = absurd (err-ok BadFd (Some f) p.1 (ap (λ (q : Moved). q.1) is) ok)
some-by false false true t slot fd to p f new here is_far is_same is ok released =
    absurd (let never : None ≡ Some f = ok-ok None (Some f) p.1 (ap (λ (q : Moved). q.1) is) ok in cc)
some-by false false false t slot fd to p f new here is_far is_same is ok released =
    (let some = ok-ok (last_file t.descriptors slot to) (Some f) p.1 (ap (λ (q : Moved). q.1) is) ok in
    let left = ap (λ (q : Moved). q.0) is in
    let dead = is_dead_target (generations (counts_of t.lines)) f.target in
    let target = seen_target t.nodes f.target in
    let gone = view_of (record t { descriptors = drop_number t.descriptors slot to }) in
    goes_on (view_of t) new (dup2_row (view_of t) slot fd to) (rw (closed_seen t slot fd ∙ here, is_far) refl)
    (rw is_same
    (released ∙ ap (λ d. release_target seeing (view_of (record t { descriptors = d })) dead target) left
    ∙ ap (λ v. release_target seeing v dead target) (copied_as t (drop_number t.descriptors slot to) slot fd to)
    ∙ copies_after gone slot fd to dead target
    ∙ ap (λ v. change v (on_files (copy_fd slot fd to))) (closes_some t slot to f some))))

pub dup2_releases : (t : Tables) (slot fd to : ℕ) (left : Shared Open) (answer : Result (Option Open) Rule) (f : Open) (new : View)
    → (left, answer) ≡ calls.dup2 t.descriptors slot fd to → answer ≡ Ok (Some f)
    → new ≡ release_target seeing (view_of (record t { descriptors = left })) (is_dead_target (generations (counts_of t.lines)) f.target) (seen_target t.nodes f.target)
    → Does (view_of t) new (Answer (Num to)) (dup2_row (view_of t) slot fd to)
dup2_releases t slot fd to left answer f new is ok released =
    some-by (is_none (shared.file_at t.descriptors slot fd)) (nat_le DESCRIPTORS to) (fd == to) t slot fd to (left, answer) f new refl refl refl is ok released
