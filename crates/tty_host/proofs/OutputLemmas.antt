-- What was written, and what is still to come.
use Rattle.std.proofs.Common.{◌≡◌, ℕ, ◌+◌, List, [], ◌∷◌, ◌++◌, map, take, drop, Some, None, Option, Ok, Err, Result, refl, sym, ap, subst, ◌∙◌, append_assoc, append-nil, take-add, ◌≤◌, inl, inr, arith}
use Rattle.std.specs.Prelude.{if◌then◌else◌, true, OnOk, OnErr}
use Rattle.edge_io.specs.Outside.{Rose, Appended}
use Rattle.call_words.specs.declared.event.Event.{Event}
use Rattle.system_model.specs.State.{View}
use Rattle.script_model.specs.Script.{Output, stop_before}
use Rattle.system_laws.specs.Memory.{finds_no_memory}
use Rattle.script_model.specs.Seen.{with_line}
use Rattle.tty_host.specs.declared.run.Stop.{Stop}
use Rattle.tty_host.specs.declared.run.Stop.TheVariants.{BadLine, Full, Failed, NoMemory}
use Rattle.tty_host.specs.Outputs.{Began, Among, Keeps, behind, status_alone, Goes}

pub appended-none : (a : Option (List ℕ)) → Appended a a []
appended-none None = tt
appended-none (Some x) = sym (append-nil x)

-- two writes are one
pub appended-append : (a b c : Option (List ℕ)) (xs ys : List ℕ) → Appended a b xs → Appended b c ys → Appended a c (xs ++ ys)
appended-append None b c xs ys h k = tt
appended-append (Some x) None c xs ys h k = absurd h
appended-append (Some x) (Some y) None xs ys h k = absurd k
appended-append (Some x) (Some y) (Some z) xs ys h k = rw (k, h) (append_assoc x xs ys)

-- what the next write took from the rest
pub appended-take : (a b c : Option (List ℕ)) (bytes : List ℕ) (at n : ℕ) → Appended a b (take at bytes) → Appended b c (take n (drop at bytes))
    → Appended a c (take (at + n) bytes)
appended-take a b c bytes at n h k = rw (take-add at n bytes) (appended-append a b c (take at bytes) (take n (drop at bytes)) h k)

among-mapped : (line : List ℕ) (fronts : List (List ℕ)) (front : List ℕ) → Among fronts front → Among (map (λ f. line ++ f) fronts) (line ++ front)
among-mapped line [] front h = absurd h
among-mapped line (f ∷ fronts) front (inl is) = inl (ap (λ x. line ++ x) is)
among-mapped line (f ∷ fronts) front (inr later) = inr (among-mapped line fronts front later)

among-behind : (before fronts : List (List ℕ)) (front : List ℕ) → Among fronts front → Among (before ++ fronts) front
among-behind [] fronts front h = h
among-behind (f ∷ before) fronts front h = inr (among-behind before fronts front h)

pub keeps-same : (a : Option (List ℕ)) (x : Output) → Keeps a x a x
keeps-same a x = record { wrote = []; appended = appended-none a; bytes = refl; status = refl; stops = λ front among. among }

pub keeps-more : (a b c : Option (List ℕ)) (x y z : Output) → Keeps a x b y → Keeps b y c z → Keeps a x c z
keeps-more a b c x y z h k = record {
  wrote = h.wrote ++ k.wrote;
  appended = appended-append a b c h.wrote k.wrote h.appended k.appended;
  bytes = h.bytes ∙ ap (λ bs. h.wrote ++ bs) k.bytes ∙ sym (append_assoc h.wrote k.wrote z.bytes);
  status = h.status ∙ k.status;
  stops = λ front among. subst (λ f. Among x.stops f) (sym (append_assoc h.wrote k.wrote front)) (h.stops (k.wrote ++ front) (k.stops front among));
}

-- a front of what is still to come is a front of what was to come
pub began-more : (a b c : Option (List ℕ)) (x y : Output) → Keeps a x b y → Began b y.bytes c → Began a x.bytes c
began-more a b c x y h k = record {
  wrote = h.wrote ++ k.wrote;
  left = k.left;
  appended = appended-append a b c h.wrote k.wrote h.appended k.appended;
  whole = h.bytes ∙ ap (λ bs. h.wrote ++ bs) k.whole ∙ sym (append_assoc h.wrote k.wrote k.left);
}

-- nothing was written yet
pub began-none : (a : Option (List ℕ)) (bytes : List ℕ) → Began a bytes a
began-none a bytes = record { wrote = []; left = bytes; appended = appended-none a; whole = refl }

-- a front among some that begin alike
record IsAmongMapped (bytes : List ℕ) (fronts : List (List ℕ)) (front : List ℕ) : Type 0 where
  rest : List ℕ
  among : Among fronts rest
  is : front ≡ bytes ++ rest

among-of-mapped : (bytes : List ℕ) (fronts : List (List ℕ)) (front : List ℕ) → Among (map (λ f. bytes ++ f) fronts) front → IsAmongMapped bytes fronts front
among-of-mapped bytes [] front h = absurd h
among-of-mapped bytes (f ∷ fronts) front (inl is) = record { rest = f; among = inl refl; is = sym is }
among-of-mapped bytes (f ∷ fronts) front (inr later) =
    let more = among-of-mapped bytes fronts front later in
    record { rest = more.rest; among = inr more.among; is = more.is }

-- what is gathered ends with the line
ends : (before line after more : List ℕ) → after ≡ before ++ line → before ++ (line ++ more) ≡ after ++ more
ends before line after more h = sym (append_assoc before line more) ∙ ap (λ x. x ++ more) (sym h)

-- a line that was printed stands among what is gathered
pub keeps-line : (a : Option (List ℕ)) (before after : List ℕ) (v : View) (e : Event) (line : List ℕ) (more : Output) → after ≡ before ++ line
    → Keeps a (behind before (with_line v e line more)) a (behind after more)
keeps-line a before after v e line more h = record {
  wrote = [];
  appended = appended-none a;
  bytes = ends before line after more.bytes h;
  status = refl;
  stops = λ front among.
      let one = among-of-mapped after more.stops front among in
      let all = stop_before v e ++ map (λ f. line ++ f) more.stops in
      subst (λ f. Among (map (λ f. before ++ f) all) f) (ends before line after one.rest h ∙ sym one.is)
      (among-mapped before all (line ++ one.rest) (among-behind (stop_before v e) (map (λ f. line ++ f) more.stops) (line ++ one.rest)
      (among-mapped line more.stops one.rest one.among)));
}

-- all that was gathered was written
pub keeps-written : (a b : Option (List ℕ)) (before after : List ℕ) (more : Output) → Appended a b before → after ≡ [] → Keeps a (behind before more) b (behind after more)
keeps-written a b before after more h none = record {
  wrote = before;
  appended = h;
  bytes = ap (λ g. before ++ (g ++ more.bytes)) (sym none);
  status = refl;
  stops = λ front among.
      let one = among-of-mapped after more.stops front among in
      subst (λ f. Among (map (λ f. before ++ f) more.stops) f)
      (ap (λ f. before ++ f) (ap (λ g. g ++ one.rest) (sym none) ∙ sym one.is))
      (among-mapped before more.stops one.rest one.among);
}

-- the last line was written, behind what was gathered
pub keeps-last : (a b : Option (List ℕ)) (out : Output) → Appended a b out.bytes → Keeps a out b (status_alone out.status)
keeps-last a b out h = record { wrote = out.bytes; appended = h; bytes = sym (append-nil out.bytes); status = refl; stops = λ front among. absurd among }

fronts-none : (fronts : List (List ℕ)) → map (λ front. [] ++ front) fronts ≡ fronts
fronts-none [] = refl
fronts-none (front ∷ fronts) = ap (λ fs. front ∷ fs) (fronts-none fronts)

-- nothing is written before what is to come
pub behind-none : (before : List ℕ) (come : Output) → before ≡ [] → behind before come ≡ come
behind-none before come none =
    ap (λ bytes. behind bytes come) none ∙ ap (λ fronts. record { bytes = come.bytes; status = come.status; stops = fronts }) (fronts-none come.stops)

-- nothing was gathered
pub keeps-nothing : (a b : Option (List ℕ)) (x y : Output) (after : List ℕ) → after ≡ [] → Keeps a x b (behind after y) → Keeps a x b y
keeps-nothing a b x y after none h = record {
  wrote = h.wrote;
  appended = h.appended;
  bytes = h.bytes ∙ ap (λ g. h.wrote ++ (g ++ y.bytes)) none;
  status = h.status;
  stops = λ front among.
      h.stops front (subst (λ g. Among (map (λ f. g ++ f) y.stops) front) (sym none) (among-mapped [] y.stops front among));
}

-- what holds before a call and what the call keeps
pub goes-more : (r : Result (Unit {0}) Stop) (a b c : Option (List ℕ)) (x y z : Output) → Keeps a x b y → Goes r b y c z → Goes r a x c z
unfolding Goes
goes-more (Ok v) a b c x y z h k = keeps-more a b c x y z h k
goes-more (Err BadLine) a b c x y z h k = keeps-more a b c x y (status_alone 2) h k
goes-more (Err Full) a b c x y z h k = keeps-more a b c x y (status_alone 6) h k
goes-more (Err Failed) a b c x y z h k = began-more a b c x y h k
goes-more (Err NoMemory) a b c x y z h k = record {
  front = h.wrote ++ k.front;
  among = h.stops k.front k.among;
  appended = appended-append a b c h.wrote k.front h.appended k.appended;
}

-- where a run stops, what would have come after does not matter
pub goes-stop : (s : Stop) (a b : Option (List ℕ)) (x y z : Output) → Goes (Err s) a x b y → Goes (Err s) a x b z
unfolding Goes
goes-stop BadLine a b x y z h = h
goes-stop Full a b x y z h = h
goes-stop Failed a b x y z h = h
goes-stop NoMemory a b x y z h = h

pub goes-ok : (a b : Option (List ℕ)) (x y : Output) → Keeps a x b y → Goes (Ok tt) a x b y
unfolding Goes
goes-ok a b x y h = h

pub keeps-ok : (u : Unit {0}) (a b : Option (List ℕ)) (x y : Output) → Goes (Ok u) a x b y → Keeps a x b y
unfolding Goes
keeps-ok u a b x y h = h

pub goes-full : (a b : Option (List ℕ)) (x y : Output) → Keeps a x b (status_alone 6) → Goes (Err Full) a x b y
unfolding Goes
goes-full a b x y h = h

pub goes-bad : (a b : Option (List ℕ)) (x y : Output) → Keeps a x b (status_alone 2) → Goes (Err BadLine) a x b y
unfolding Goes
goes-bad a b x y h = h

pub goes-failed : (a b : Option (List ℕ)) (x y : Output) → Began a x.bytes b → Goes (Err Failed) a x b y
unfolding Goes
goes-failed a b x y h = h

-- nothing is gathered where a call does not stop the run
pub goes-nothing : (r : Result (Unit {0}) Stop) (a b : Option (List ℕ)) (x y : Output) (after : List ℕ) → OnOk r (after ≡ []) → Goes r a x b (behind after y)
    → Goes r a x b y
unfolding Goes
goes-nothing (Ok u) a b x y after none h = keeps-nothing a b x y after none h
goes-nothing (Err s) a b x y after none h = goes-stop s a b x (behind after y) y h

-- where memory ran out before the event that comes next, all that was gathered was written
pub goes-memory : (a b : Option (List ℕ)) (before : List ℕ) (come more : Output) → Among come.stops [] → Appended a b before
    → Goes (Err NoMemory) a (behind before come) b more
unfolding Goes
goes-memory a b before come more among h = record {
  front = before ++ [];
  among = among-mapped before come.stops [] among;
  appended = subst (λ bytes. Appended a b bytes) (sym (append-nil before)) h;
}

-- memory may run out at an event, before anything of it is written
pub stops-before : (v : View) (e : Event) (line : List ℕ) (more : Output) → finds_no_memory v e ≡ true → Among (with_line v e line more).stops []
stops-before v e line more wants =
    subst (λ b. Among ((if b then [] ∷ [] else []) ++ map (λ f. line ++ f) more.stops) []) (sym wants) (inl refl)

-- the same of what was to come, written another way
pub goes-at : (r : Result (Unit {0}) Stop) (a b : Option (List ℕ)) (x x' y : Output) → x ≡ x' → Goes r a x' b y → Goes r a x b y
goes-at r a b x x' y e h = rw e h

pub goes-to : (r : Result (Unit {0}) Stop) (a b : Option (List ℕ)) (x y y' : Output) → y' ≡ y → Goes r a x b y' → Goes r a x b y
goes-to r a b x y y' e h = rw (← e) h

pub keeps-at : (a b : Option (List ℕ)) (x x' y : Output) → x ≡ x' → Keeps a x' b y → Keeps a x b y
keeps-at a b x x' y e h = rw e h

-- a failed write of a front of what was to come
pub began-line : (a b : Option (List ℕ)) (line rest : List ℕ) → Began a line b → Began a (line ++ rest) b
began-line a b line rest h = record {
  wrote = h.wrote;
  left = h.left ++ rest;
  appended = h.appended;
  whole = ap (λ bs. bs ++ rest) h.whole ∙ append_assoc h.wrote h.left rest;
}

-- a failed write of what comes after all that was gathered
pub began-behind : {X E : Type 0} (r : Result X E) (a b c : Option (List ℕ)) (before bytes : List ℕ) → Appended a b before → OnErr r (Began b bytes c)
    → OnErr r (Began a (before ++ bytes) c)
began-behind (Ok x) a b c before bytes h began = tt
began-behind (Err e) a b c before bytes h began = record {
  wrote = before ++ began.wrote;
  left = began.left;
  appended = appended-append a b c before began.wrote h began.appended;
  whole = ap (λ x. before ++ x) began.whole ∙ sym (append_assoc before began.wrote began.left);
}

-- a count that rose later rose since
pub rose-later : (a b c : ℕ) → a ≤ b → Rose b c → Rose a c
rose-later a b c h (inl less) = inl (omega arith)
rose-later a b c h (inr last) = inr last
