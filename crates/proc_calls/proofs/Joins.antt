-- Who joins the list of those to be ended: running processes alone, behind those that stand there.
use Rattle.std.proofs.Common.{◌≡◌, ◌≢◌, ⊎_elim, ℕ, zero, suc, ◌+◌, ◌<◌, ◌≤◌, Bool, true, false, cond, not, List, [], ◌∷◌, ◌++◌, length, fold, drop}
use Rattle.std.proofs.Common.{Some, refl, sym, ap, ap₂, ◌∙◌, subst, arith}
use Rattle.std.specs.Prelude.{◌==◌, ◌&&◌, ◌||◌, is_some, slice_get}
use Rattle.std.proofs.lemmas.Bool.Decides.{eqb_tells, nat_tests}
use Rattle.std.proofs.lemmas.List.{append_assoc, append-nil, drop-append-le}
use Rattle.sys_types.specs.declared.limits.TheConstants.{SLOTS}
use Rattle.sys_types.specs.declared.sig.Sig.{Sig}
use Rattle.sys_types.specs.declared.sig.Sig.TheVariants as sig
use Rattle.call_words.specs.declared.event.How.{How}
use Rattle.call_words.specs.declared.event.How.TheVariants as how
use Rattle.call_words.specs.declared.signal.To.{To}
use Rattle.call_words.specs.declared.signal.To.TheVariants as to
use Rattle.proc_table.specs.Processes.{Process, Processes, running_at, change_process}
use Rattle.proc_table.specs.Changes.{with_directory}
use Rattle.proc_table.specs.Posts.{Posted, table_and_list, is_ending, add_ending, IsEndingList, post_at, post_all}
use Rattle.proc_table.specs.Posts.{receivers, post}
use Rattle.proc_table.specs.Endings.{end_at, groups_orphaned_by, hang_up, bury_in}
use Rattle.proc_table.proofs.KeepLemmas.{post_at_keeps, JoinsAt, post_at_joins, running_kept}
use Rattle.proc_calls.specs.Ends.{AreRunning, IsJoined}
use Rattle.proc_calls.proofs.Burials.{ended_runs}

abbrev Entries : Type 0
Entries = List (ℕ × How)

-- each slot of a list passes
abbrev AllPass : (ℕ → Bool) → Entries → Type 0
AllPass test [] = Unit {0}
AllPass test (e ∷ es) = (test e.0 ≡ true) × AllPass test es

pass-behind : (test : ℕ → Bool) (es : Entries) (slot : ℕ) (why : How) → AllPass test es → test slot ≡ true → AllPass test (es ++ (slot, why) ∷ [])
pass-behind test [] slot why all is = (is, tt)
pass-behind test (e ∷ es) slot why all is = (all.0, pass-behind test es slot why all.1 is)

running-by : (t : Processes ℕ) (test : ℕ → Bool) (es : Entries) → ((slot : ℕ) → is_some (running_at t slot) ≡ test slot) → AllPass test es → AreRunning t es
running-by t test [] run all = tt
running-by t test (e ∷ es) run all = (run e.0 ∙ all.0, running-by t test es run all.1)

-- who runs, and a list with more behind it, each of which runs
record More (test : ℕ → Bool) (before after : Entries) : Type 0 where
  more : Entries
  list : after ≡ before ++ more
  pass : AllPass test more

record Joins {D : Type 0} (test : ℕ → Bool) (before : Entries) (posted : Posted D) : Type 0 where
  run : (slot : ℕ) → is_some (running_at posted.table slot) ≡ test slot
  more : More test before posted.ending

more-add : (test : ℕ → Bool) (before ending : Entries) (slot : ℕ) (why : How) → test slot ≡ true → More test before ending
    → More test before (add_ending ending slot why)
more-add test before ending slot why runs m = by_case (is_ending ending slot)
  where
    by_case : (b : Bool) → More test before (cond b ending (ending ++ (slot, why) ∷ []))
    by_case true = m
    by_case false = record {
      more = m.more ++ (slot, why) ∷ [];
      list = ap (λ es. es ++ (slot, why) ∷ []) m.list ∙ append_assoc before m.more ((slot, why) ∷ []);
      pass = pass-behind test m.more slot why m.pass runs;
    }

more-at : {D : Type 0} (test : ℕ → Bool) (before : Entries) (signal : Sig) (slot : ℕ) (posted after : Posted D) → is_some (running_at posted.table slot) ≡ test slot
    → JoinsAt signal posted slot after → More test before posted.ending → More test before after.ending
more-at test before signal slot posted after run joins m =
    ⊎_elim
    (λ (same : after.ending ≡ posted.ending). subst (More test before) (sym same) m)
    (λ (more : (is_some (running_at posted.table slot) ≡ true) × (after.ending ≡ add_ending posted.ending slot (how.Signal signal))).
    subst (More test before) (sym more.1) (more-add test before posted.ending slot (how.Signal signal) (sym run ∙ more.0) m))
    joins

joins-at : {D : Type 0} (test : ℕ → Bool) (before : Entries) (signal : Sig) (posted : Posted D) (slot : ℕ) → Joins test before posted
    → Joins test before (post_at signal posted slot)
joins-at test before signal posted slot joins = record {
  run = λ k. running_kept posted.table (post_at signal posted slot).table k (post_at_keeps signal posted slot) ∙ joins.run k;
  more = more-at test before signal slot posted (post_at signal posted slot) (joins.run slot) (post_at_joins signal posted slot) joins.more;
}

joins-all : {D : Type 0} (test : ℕ → Bool) (before : Entries) (signal : Sig) (slots : List ℕ) (posted : Posted D) → Joins test before posted
    → Joins test before (post_all signal slots posted)
joins-all test before signal [] posted joins = joins
joins-all test before signal (slot ∷ slots) posted joins =
    joins-all test before signal slots (post_at signal posted slot) (joins-at test before signal posted slot joins)

joins-post : {D : Type 0} (test : ℕ → Bool) (before : Entries) (t : Processes D) (signal : Sig) (whom : To) (ending : Entries)
    → Joins test before (table_and_list t ending) → Joins test before (post t signal whom ending)
joins-post test before t signal whom ending joins = joins-all test before signal (receivers t whom) (table_and_list t ending) joins

joins-hang : {D : Type 0} (test : ℕ → Bool) (before : Entries) (groups : List ℕ) (posted : Posted D) → Joins test before posted
    → Joins test before (fold hang_up posted groups)
joins-hang test before [] posted joins = joins
joins-hang test before (group ∷ groups) posted joins =
    let after = post posted.table sig.HUP (to.Group group) posted.ending in
    joins-hang test before groups (hang_up posted group)
    (joins-post test before after.table sig.CONT (to.Group group) after.ending
    (joins-post test before posted.table sig.HUP (to.Group group) posted.ending joins))

-- at first the list is as it is
first-joins : {D : Type 0} (test : ℕ → Bool) (t : Processes D) (ending : Entries) → ((slot : ℕ) → is_some (running_at t slot) ≡ test slot)
    → Joins test ending (table_and_list t ending)
first-joins test t ending run = record { run = run; more = record { more = []; list = sym (append-nil ending); pass = tt } }

joined-as : (test : ℕ → Bool) (t : Processes ℕ) (before after : Entries) → Joins test before (table_and_list t after) → IsJoined test t before after
joined-as test t before after joins = record {
  run = joins.run;
  more = joins.more.more;
  list = joins.more.list;
  running = running-by t test joins.more.more joins.run joins.more.pass;
}

-- a signal is posted
pub posted_joins : (old new : Processes ℕ) (before after : Entries) (signal : Sig) (whom : To) → table_and_list new after ≡ post old signal whom before
    → IsJoined (λ slot. is_some (running_at old slot)) new before after
posted_joins old new before after signal whom is =
    let test : ℕ → Bool = λ slot. is_some (running_at old slot) in
    joined-as test new before after
    (subst (Joins test before) (sym is) (joins-post test before old signal whom before (first-joins test old before (λ slot. refl))))

-- nothing is
pub none_joins : (t : Processes ℕ) (ending : Entries) → IsJoined (λ slot. is_some (running_at t slot)) t ending ending
none_joins t ending = record { run = λ slot. refl; more = []; list = sym (append-nil ending); running = tt }

-- a process ends
pub buried_joins : (old new : Processes ℕ) (before after : Entries) (slot : ℕ) (why : How) (p : Process ℕ) → running_at old slot ≡ Some p
    → table_and_list new after ≡ bury_in 0 old slot why before
    → IsJoined (λ other. not (other == slot) && is_some (running_at old other)) new before after
buried_joins old new before after slot why p runs is =
    let test : ℕ → Bool = λ other. not (other == slot) && is_some (running_at old other) in
    let mid = change_process (with_directory 0) old slot in
    joined-as test new before after
    (subst (Joins test before) (sym is)
    (joins-hang test before (groups_orphaned_by mid (end_at mid slot why)) (record { table = end_at mid slot why; ending = before })
    (first-joins test (end_at mid slot why) before (ended_runs 0 old slot why p runs))))

-- ---- a process that stands on the list does not join it

apart-from : (es more : Entries) (slot : ℕ) → is_ending (es ++ more) slot ≡ false → AllPass (λ other. not (other == slot)) more
apart-from [] [] slot none = tt
apart-from [] (e ∷ more) slot none =
    let here : (e.0 == slot) ≡ false = grind (arith, nat_tests, none) in
    let rest : is_ending more slot ≡ false = grind (arith, nat_tests, none) in
    (ap not here, apart-from [] more slot rest)
apart-from (e ∷ es) more slot none = apart-from es more slot (grind (arith, nat_tests, none))

not-again : (es more : Entries) (slot : ℕ) → IsEndingList (es ++ more) → is_ending es slot ≡ true → AllPass (λ other. not (other == slot)) more
not-again [] more slot list stands = absurd cc
not-again (e ∷ es) more slot list stands =
    ⊎_elim
    (λ (same : ((e.0 == slot) ≡ true) × (e.0 ≡ slot)). apart-from es more slot (subst (λ s. is_ending (es ++ more) s ≡ false) same.1 list.1))
    (λ (other : ((e.0 == slot) ≡ false) × (e.0 ≢ slot)). not-again es more slot list.2 (ap (λ b. b || is_ending es slot) (sym other.0) ∙ stands))
    (eqb_tells e.0 slot)

still-running : (old new : Processes ℕ) (slot : ℕ) (es : Entries) → ((k : ℕ) → is_some (running_at new k) ≡ (not (k == slot) && is_some (running_at old k)))
    → AllPass (λ other. not (other == slot)) es → AreRunning old es → AreRunning new es
still-running old new slot [] run apart running = tt
still-running old new slot (e ∷ es) run apart running =
    (run e.0 ∙ ap₂ (λ a b. a && b) apart.0 running.0, still-running old new slot es run apart.1 running.1)

running-both : (t : Processes ℕ) (these those : Entries) → AreRunning t these → AreRunning t those → AreRunning t (these ++ those)
running-both t [] those first then = then
running-both t (e ∷ these) those first then = (first.0, running-both t these those first.1 then)

-- posts, and then the end of one that stands on the list
pub both_join : (old mid new : Processes ℕ) (before then after : Entries) (slot : ℕ) → is_ending before slot ≡ true → IsEndingList then
    → IsJoined (λ other. is_some (running_at old other)) mid before then
    → IsJoined (λ other. not (other == slot) && is_some (running_at mid other)) new then after
    → IsJoined (λ other. not (other == slot) && is_some (running_at old other)) new before after
both_join old mid new before then after slot stands list posts ends = record {
  run = λ k. ends.run k ∙ ap (λ b. not (k == slot) && b) (posts.run k);
  more = posts.more ++ ends.more;
  list = ends.list ∙ ap (λ es. es ++ ends.more) posts.list ∙ append_assoc before posts.more ends.more;
  running = running-both new posts.more ends.more
      (still-running mid new slot posts.more ends.run (not-again before posts.more slot (subst IsEndingList posts.list list) stands) posts.running)
      ends.running;
}

-- ---- the list from a place on

pub record IsAt (ending : Entries) (place : ℕ) (e : ℕ × How) : Type 0 where
  pub below : e.0 < SLOTS
  pub stands : is_ending ending e.0 ≡ true
  pub rest : drop place ending ≡ e ∷ drop (suc place) ending
  pub apart : AllPass (λ other. not (other == e.0)) (drop (suc place) ending)
  pub within : suc place ≤ length ending

pub at_place : (ending : Entries) (place : ℕ) (e : ℕ × How) → IsEndingList ending → slice_get ending place ≡ Some e → IsAt ending place e
at_place [] place e list is = absurd cc
at_place (x ∷ ending) zero e list is =
    let same : x ≡ e = cc in
    subst (IsAt (x ∷ ending) zero) same record {
      below = list.0;
      stands = grind (arith, nat_tests);
      rest = refl;
      apart = apart-from [] ending x.0 list.1;
      within = omega arith;
    }
at_place (x ∷ ending) (suc place) e list is =
    let here = at_place ending place e list.2 is in
    record {
      below = here.below;
      stands = grind (arith, nat_tests, here.stands);
      rest = here.rest;
      apart = here.apart;
      within = omega (arith, here.within);
    }

pub runs_at : (t : Processes ℕ) (ending : Entries) (place : ℕ) (e : ℕ × How) → IsAt ending place e → AreRunning t (drop place ending)
    → is_some (running_at t e.0) ≡ true
runs_at t ending place e here running = (subst (AreRunning t) here.rest running).0

-- one of the list has ended, and those behind it run
pub runs_on : (old new : Processes ℕ) (before after : Entries) (place : ℕ) (e : ℕ × How) → IsAt before place e → AreRunning old (drop place before)
    → IsJoined (λ other. not (other == e.0) && is_some (running_at old other)) new before after → AreRunning new (drop (place + 1) after)
runs_on old new before after place e here running joined =
    let next : suc place ≡ place + 1 = omega arith in
    subst (λ k. AreRunning new (drop k after)) next
    (subst (AreRunning new) (sym (ap (drop (suc place)) joined.list ∙ drop-append-le (suc place) before joined.more here.within))
    (running-both new (drop (suc place) before) joined.more
    (still-running old new e.0 (drop (suc place) before) joined.run here.apart (subst (AreRunning old) here.rest running).1) joined.running))
