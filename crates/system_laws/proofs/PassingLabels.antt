-- Bytes pass through an open file only as labels allow, at the read or write or at the file's origin.
use Rattle.std.proofs.Common.{◌≡◌, ◌⊎◌, inl, inr, ℕ, ◌+◌, Bool, true, false, List, refl, ap, sym, subst, ◌∙◌}
use Rattle.std.specs.Prelude.{◌&&◌, not}
use Rattle.call_words.specs.declared.call.Call.TheVariants as call
use Rattle.call_words.specs.declared.event.Event.{Event}
use Rattle.call_words.specs.declared.open.Access.{Access}
use Rattle.call_words.specs.declared.open.OpenFlags.{OpenFlags}
use Rattle.user_db.specs.declared.boot.Boot.{Boot}
use Rattle.pipe_core.specs.Pipes.{element_at}
use Rattle.proc_table.specs.Processes.{Process}
use Rattle.system_model.specs.Parts.{Path, Target, node, read_end, write_end, tty, File}
use Rattle.system_model.specs.State.{NamedFile, OpenFile, State, View, view}
use Rattle.system_model.specs.FileEffects.{at_offset}
use Rattle.system_model.specs.Looks.{caller_of, node_at, tty_path, dominates_node, node_dominates}
use Rattle.system_model.specs.IoCalls.{may_not_read, may_not_write, dominates_pipe, pipe_dominates}
use Rattle.system_model.specs.OpenCalls.{file_for}
use Rattle.system_model.specs.PipeCalls.{pipe_file}
use Rattle.system_model.specs.Step.{view_after}
use Rattle.system_model.specs.Run.{state_after}
use Rattle.system_laws.specs.Laws.{IsOpenedBy, by_open, by_pipe, IsOpenedWell}
use Rattle.system_laws.specs.OriginLaws.{seen_after, Way, reads, writes, Allows, is_pipe, Passes, a_read, a_write, HasLabelledOrigin}
use Rattle.system_laws.specs.OriginLaws.{PassesByLabels}
use Rattle.system_laws.proofs.Labels.{obeys_labels}
use Rattle.system_laws.proofs.Runs.{view-ending, step_seen}
use Rattle.system_laws.proofs.OpenRuns.{within_at}
use Rattle.system_laws.proofs.RevokedFiles.{after-event}
use Rattle.system_laws.proofs.MakerAnswers.{maker_does}
use Rattle.system_laws.proofs.OriginEvents.{origin_is}
use Rattle.system_laws.proofs.OriginRevokes.{SeenFile, seen_some, opened_well_at}
use Rattle.system_laws.proofs.OpenedLabels.{IsFor, opened_allows}

-- ---- at the read or write

not-not : (t : Bool) → not t ≡ false → t ≡ true
not-not true is = refl
not-not false is = cc

looked : (a b : Bool) → (false ≡ true) ⊎ (a ≡ true) → (a && not b) ≡ false → b ≡ true
looked a b (inl never) is = cc
looked true b (inr on) is = not-not b is
looked false b (inr on) is = cc

read-allows : (v : View) (who : Process Path) (target : Target) → (is_pipe target ≡ true) ⊎ (v.recheck ≡ true) → may_not_read v who target ≡ false
    → Allows reads v who target
read-allows v who (node place) on is = looked v.recheck (dominates_node who (node_at v place)) on is
read-allows v who (read_end k) on is = not-not (dominates_pipe who (element_at v.pipes k)) is
read-allows v who (write_end k) on is = not-not (dominates_pipe who (element_at v.pipes k)) is
read-allows v who (tty n) on is = looked v.recheck (dominates_node who (node_at v (tty_path n))) on is

write-allows : (v : View) (who : Process Path) (target : Target) → (is_pipe target ≡ true) ⊎ (v.recheck ≡ true) → may_not_write v who target ≡ false
    → Allows writes v who target
write-allows v who (node place) on is = looked v.recheck (node_dominates who (node_at v place)) on is
write-allows v who (read_end k) on is = not-not (pipe_dominates who (element_at v.pipes k)) is
write-allows v who (write_end k) on is = not-not (pipe_dominates who (element_at v.pipes k)) is
write-allows v who (tty n) on is = looked v.recheck (node_dominates who (node_at v (tty_path n))) on is

now-allows : (s : State) (p : ℕ) (e : Event) (slot fd : ℕ) (f : OpenFile) (way : Way) → Passes (view s) e slot fd f way
    → (is_pipe f.file.target ≡ true) ⊎ ((view s).recheck ≡ true) → Allows way (view s) (caller_of (view s) slot) f.file.target
now-allows s p e slot fd f _ (a_read max bs asks is there alive) on =
    read-allows (view s) (caller_of (view s) slot) f.file.target on ((obeys_labels s p e).reads slot fd max f bs asks is there alive).1
now-allows s p e slot fd f _ (a_write n bs asks is there alive) on =
    write-allows (view s) (caller_of (view s) slot) f.file.target on ((obeys_labels s p e).writes slot fd n bs f asks is there alive).1

-- ---- at the origin

-- the file is open for this way
abbrev IsOpenFor : Way → File → Type 0
IsOpenFor reads file = file.readable ≡ true
IsOpenFor writes file = file.writable ≡ true

-- the number stands for the file, which is open for this way
record StandsFor (s : State) (slot fd : ℕ) (f : OpenFile) (way : Way) : Type 0 where
  seen : SeenFile s slot fd f
  open_for : IsOpenFor way f.file

stands-for : (s : State) (p : ℕ) (e : Event) (slot fd : ℕ) (f : OpenFile) (way : Way) → Passes (view s) e slot fd f way → StandsFor s slot fd f way
stands-for s p e slot fd f _ (a_read max bs asks is there alive) =
    record { seen = seen_some s slot fd f there; open_for = ((obeys_labels s p e).reads slot fd max f bs asks is there alive).0 }
stands-for s p e slot fd f _ (a_write n bs asks is there alive) =
    record { seen = seen_some s slot fd f there; open_for = ((obeys_labels s p e).writes slot fd n bs f asks is there alive).0 }

is-for : (way : Way) (access : Access) (flags : OpenFlags) (target : Target) (file : File) → file ≡ file_for access flags target → IsOpenFor way file
    → IsFor way access
is-for reads access flags target file is on = sym (ap (λ (f : File). f.readable) is) ∙ on
is-for writes access flags target file is on = sym (ap (λ (f : File). f.writable) is) ∙ on

at-start : (way : Way) (file : File) → IsOpenFor way file → IsOpenFor way (at_offset 0 file)
at-start reads file on = on
at-start writes file on = on

pipe-no : (target : Target) (k : ℕ) → (target ≡ read_end k) ⊎ (target ≡ write_end k) → is_pipe (pipe_file target).target ≡ true
pipe-no target k (inl is) = ap (λ t. is_pipe (pipe_file t).target) is
pipe-no target k (inr is) = ap (λ t. is_pipe (pipe_file t).target) is

-- the view after an event of a run
seen-next : (says : Boot) (es : List Event) (f : NamedFile) (n : ℕ) (well : IsOpenedWell says es n f)
    → seen_after says es f.name.made ≡ view_after (seen_after says es well.before) well.event
seen-next says es f n well =
    ap (seen_after says es) well.made
    ∙ ap view (after-event says es well.before well.event well.at)
    ∙ step_seen (state_after says es well.before) well.before well.event (within_at says es well.before)

origin-allows : (says : Boot) (es : List Event) (p slot fd : ℕ) (f : OpenFile) (way : Way) (g : SeenFile (state_after says es p) slot fd f)
    → IsOpenFor way f.file → is_pipe f.file.target ≡ false → (well : IsOpenedWell says es p g.named)
    → IsOpenedBy (seen_after says es well.before) well.event (at_offset 0 (g.named).file) → HasLabelledOrigin says es p slot fd f.file.target way
origin-allows says es p slot fd f way g on plain well (by_open asker path access flags mode n target asks runs is walks opens same) =
    let s = state_after says es well.before in
    let v = view s in
    let file : (g.named).file ≡ f.file = ap (λ (x : OpenFile). x.file) g.seen in
    let of_target : target ≡ f.file.target = sym (ap (λ (x : File). x.target) same) ∙ ap (λ (x : File). x.target) file in
    let for_way = is-for way access flags target (at_offset 0 (g.named).file) same (at-start way (g.named).file (subst (IsOpenFor way) (sym file) on)) in
    let acted = maker_does v well.event asker (call.Open path access flags mode) asks refl (rw is refl) in
    let after = opened_allows v well.event asker path access flags mode (view-ending s ∙ (within_at says es well.before).ending) acted target way opens for_way in
    record {
      origin = (g.named).name.made;
      is = origin_is says es p slot fd g.named g.at;
      before = well.before;
      made = well.made;
      event = well.event;
      at = well.at;
      asker = asker;
      path = path;
      access = access;
      flags = flags;
      mode = mode;
      number = n;
      asks = asks;
      answered = is;
      allowed =
          subst (λ w. Allows way w (caller_of w asker) f.file.target) (sym (seen-next says es g.named p well))
          (subst (Allows way (view_after v well.event) (caller_of (view_after v well.event) asker)) of_target after);
    }
origin-allows says es p slot fd f way g on plain well (by_pipe asker k r w target asks runs is which none element same) =
    let file : (g.named).file ≡ f.file = ap (λ (x : OpenFile). x.file) g.seen in
    let of_pipe : is_pipe f.file.target ≡ true =
    ap (λ (x : File). is_pipe x.target) (sym file) ∙ ap (λ (x : File). is_pipe x.target) same ∙ pipe-no target k which
    in
    absurd (let both = sym of_pipe ∙ plain in cc)

-- the law of labels by origins, of every run from a boot
pub passes_by_labels : (says : Boot) (es : List Event) → PassesByLabels says es
passes_by_labels says es = record {
  now = λ p slot fd f way m on. now-allows (state_after says es p) (p + 1) m.event slot fd f way m.passes on;
  opened = λ p slot fd f way m plain. (
      let here = stands-for (state_after says es p) (p + 1) m.event slot fd f way m.passes in
      let well = opened_well_at says es p slot fd (here.seen).named (here.seen).at in
      origin-allows says es p slot fd f way here.seen here.open_for plain well well.opened);
}
