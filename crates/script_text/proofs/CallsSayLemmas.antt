-- A call that is read is said by the grammar.
use Rattle.std.proofs.Common.{◌≡◌, ℕ, List, [], ◌∷◌, Option, Some, option_map, option_and_then, refl, subst, inl, inr}
use Rattle.std.specs.Prelude.{codes}
use Rattle.std.specs.Str.{bytes_eq}
use Rattle.termios_core.specs.Reading.{termios_of}
use Rattle.call_words.specs.declared.open.Access.{Access}
use Rattle.call_words.specs.declared.open.OpenFlags.{OpenFlags}
use Rattle.call_words.specs.declared.proc.WaitFlags.{WaitFlags}
use Rattle.call_words.specs.declared.call.Call.{Call}
use Rattle.call_words.specs.declared.call.Call.TheVariants as call
use Rattle.script_text.specs.Words.{bytes_of_word}
use Rattle.script_text.specs.Paths.{path_of}
use Rattle.script_text.specs.Values.{access_of, default_mode, fd_of, flags_of, from_of, max_of, mode_of, no_flags, pid_of, status_of}
use Rattle.script_text.specs.Rights.{entries_of, groups_of, id_of, label_of, subject_label_of, which_of}
use Rattle.script_text.specs.Open.{open_call_of, open_of, open_with}
use Rattle.script_text.specs.Io.{io_call_of}
use Rattle.script_text.specs.Dir.{dir_call_of}
use Rattle.script_text.specs.Attr.{attr_call_of}
use Rattle.script_text.specs.Cred.{cred_call_of}
use Rattle.script_text.specs.Pipe.{pipe_call_of}
use Rattle.script_text.specs.Proc.{fork_of, no_wait_flags, proc_call_of, wait_flags_of, wait_of, wait_with}
use Rattle.script_text.specs.Signal.{action_of, signal_call_of, signal_of, target_of}
use Rattle.script_text.specs.Tty.{queue_of, tty_call_of, when_of}
use Rattle.script_text.specs.Calls.{call_of}
use Rattle.script_text.specs.Grammar.{SayAll, call_fields, flags, open_mode, wait_flags}
use Rattle.script_text.proofs.ChoiceLemmas.{choice_of, step_source, map_source, same_text}
use Rattle.script_text.proofs.Fields.{alone_said, one_said, two_said, three_said}

-- what is said of an open is said of the call that it is
opened : (n p a : List ℕ) (more : List (List ℕ)) (x : List ℕ) (y : Access) (f : OpenFlags) (m : ℕ) (c : Call) → call.Open x y f m ≡ c
    → SayAll (call_fields (call.Open x y f m)) (n ∷ p ∷ a ∷ more) → SayAll (call_fields c) (n ∷ p ∷ a ∷ more)
opened n p a more x y f m c e h = subst (λ (c : Call). SayAll (call_fields c) (n ∷ p ∷ a ∷ more)) e h

-- the words that an open was read from
open_with_said : (n p a : List ℕ) (F : Option OpenFlags) (M : Option ℕ) (c : Call) (more : List (List ℕ)) → n ≡ codes "open"
    → ((f : OpenFlags) (m : ℕ) → F ≡ Some f → M ≡ Some m → SayAll (flags f ∷ open_mode m ∷ []) more)
    → open_with p a F M ≡ Some c → SayAll (call_fields c) (n ∷ p ∷ a ∷ more)
open_with_said n p a F M c more named said e =
    let s =
    step_source
    (λ (x : List ℕ). option_and_then (λ (y : Access). option_and_then (λ (f : OpenFlags). option_map (λ (m : ℕ). call.Open x y f m) M) F) (access_of a))
    (path_of p) c e in
    let t = step_source (λ (y : Access). option_and_then (λ (f : OpenFlags). option_map (λ (m : ℕ). call.Open s.value y f m) M) F) (access_of a) c s.gives in
    let u = step_source (λ (f : OpenFlags). option_map (λ (m : ℕ). call.Open s.value t.value f m) M) F c t.gives in
    let v = map_source (λ (m : ℕ). call.Open s.value t.value u.value m) M c u.gives in
    opened n p a more s.value t.value u.value v.value c v.gives (named, (s.was, (t.was, said u.value v.value u.was v.was)))

open_said : (n : List ℕ) (ws : List (List ℕ)) (c : Call) → n ≡ codes "open" → open_of ws ≡ Some c → SayAll (call_fields c) (n ∷ ws)
open_said n [] c named e = absurd cc
open_said n (p ∷ []) c named e = absurd cc
open_said n (p ∷ a ∷ []) c named e = open_with_said n p a (Some no_flags) (Some default_mode) c [] named (λ f m is_f is_m. (cc, (cc, tt))) e
open_said n (p ∷ a ∷ f ∷ []) c named e = open_with_said n p a (flags_of f) (Some default_mode) c (f ∷ []) named (λ g m is_f is_m. (is_f, (cc, tt))) e
open_said n (p ∷ a ∷ f ∷ m ∷ []) c named e = open_with_said n p a (flags_of f) (mode_of m) c (f ∷ m ∷ []) named (λ g k is_f is_m. (is_f, (is_m, tt))) e
open_said n (p ∷ a ∷ f ∷ m ∷ w ∷ ws) c named e = absurd cc

fork_said : (n : List ℕ) (ws : List (List ℕ)) (c : Call) → n ≡ codes "fork" → fork_of ws ≡ Some c → SayAll (call_fields c) (n ∷ ws)
fork_said n [] c named e =
    let same : call.Fork [] ≡ c = cc in
    subst (λ (c : Call). SayAll (call_fields c) (n ∷ [])) same (named, (refl, tt))
fork_said n (w ∷ []) c named e =
    let s = map_source (λ (bs : List ℕ). call.Fork bs) (bytes_of_word w) c e in
    subst (λ (c : Call). SayAll (call_fields c) (n ∷ w ∷ [])) s.gives (named, (s.was, tt))
fork_said n (w ∷ x ∷ ws) c named e = absurd cc

-- the words that a wait was read from
wait_with_said : (n p : List ℕ) (F : Option WaitFlags) (c : Call) (more : List (List ℕ)) → n ≡ codes "wait"
    → ((f : WaitFlags) → F ≡ Some f → SayAll (wait_flags f ∷ []) more) → wait_with p F ≡ Some c → SayAll (call_fields c) (n ∷ p ∷ more)
wait_with_said n p F c more named said e =
    let s = step_source (λ (x : ℕ). option_map (λ (f : WaitFlags). call.Wait x f) F) (pid_of p) c e in
    let t = map_source (λ (f : WaitFlags). call.Wait s.value f) F c s.gives in
    subst (λ (c : Call). SayAll (call_fields c) (n ∷ p ∷ more)) t.gives (named, (s.was, said t.value t.was))

wait_said : (n : List ℕ) (ws : List (List ℕ)) (c : Call) → n ≡ codes "wait" → wait_of ws ≡ Some c → SayAll (call_fields c) (n ∷ ws)
wait_said n [] c named e = absurd cc
wait_said n (p ∷ []) c named e = wait_with_said n p (Some no_wait_flags) c [] named (λ f is. (cc, tt)) e
wait_said n (p ∷ f ∷ []) c named e = wait_with_said n p (wait_flags_of f) c (f ∷ []) named (λ g is. (is, tt)) e
wait_said n (p ∷ f ∷ w ∷ ws) c named e = absurd cc

tty_call_said : (w : List ℕ) (ws : List (List ℕ)) (c : Call) → tty_call_of w ws ≡ Some c → SayAll (call_fields c) (w ∷ ws)
unfolding tty_call_of
tty_call_said w ws c e = elim (choice_of (bytes_eq w (codes "setctty")) _ _ (Some c) e) [
  | inl h ↦
      one_said fd_of (λ n. call.SetCtty n) w ws c
      (λ v x is. (same_text w (codes "setctty") h.0, (is, tt))) h.1
  | inr other ↦ elim (choice_of (bytes_eq w (codes "tcgetattr")) _ _ (Some c) other.1) [
    | inl h ↦
        one_said fd_of (λ n. call.TcGetAttr n) w ws c
        (λ v x is. (same_text w (codes "tcgetattr") h.0, (is, tt))) h.1
    | inr other ↦ elim (choice_of (bytes_eq w (codes "tcsetattr")) _ _ (Some c) other.1) [
      | inl h ↦
          three_said fd_of when_of termios_of (λ n m t. call.TcSetAttr n m t) w ws c
          (λ t u v x y z is also too. (same_text w (codes "tcsetattr") h.0, (is, (also, (too, tt))))) h.1
      | inr other ↦ elim (choice_of (bytes_eq w (codes "tcflush")) _ _ (Some c) other.1) [
        | inl h ↦
            two_said fd_of queue_of (λ n q. call.TcFlush n q) w ws c
            (λ v u x y is also. (same_text w (codes "tcflush") h.0, (is, (also, tt)))) h.1
        | inr other ↦ elim (choice_of (bytes_eq w (codes "tcdrain")) _ _ (Some c) other.1) [
          | inl h ↦
              one_said fd_of (λ n. call.TcDrain n) w ws c
              (λ v x is. (same_text w (codes "tcdrain") h.0, (is, tt))) h.1
          | inr other ↦ elim (choice_of (bytes_eq w (codes "tcsetpgrp")) _ _ (Some c) other.1) [
            | inl h ↦
                two_said fd_of pid_of (λ n g. call.TcSetPgrp n g) w ws c
                (λ v u x y is also. (same_text w (codes "tcsetpgrp") h.0, (is, (also, tt)))) h.1
            | inr other ↦ elim (choice_of (bytes_eq w (codes "tcgetpgrp")) _ _ (Some c) other.1) [
              | inl h ↦
                  one_said fd_of (λ n. call.TcGetPgrp n) w ws c
                  (λ v x is. (same_text w (codes "tcgetpgrp") h.0, (is, tt))) h.1
              | inr other ↦ elim (choice_of (bytes_eq w (codes "fdname")) _ _ (Some c) other.1) [
                | inl h ↦
                    one_said fd_of (λ n. call.FdName n) w ws c
                    (λ v x is. (same_text w (codes "fdname") h.0, (is, tt))) h.1
                | inr other ↦ elim (choice_of (bytes_eq w (codes "revoke")) _ _ (Some c) other.1) [
                  | inl h ↦
                      one_said path_of (λ p. call.Revoke p) w ws c
                      (λ v x is. (same_text w (codes "revoke") h.0, (is, tt))) h.1
                  | inr other ↦ absurd cc
                ]
              ]
            ]
          ]
        ]
      ]
    ]
  ]
]

signal_call_said : (w : List ℕ) (ws : List (List ℕ)) (c : Call) → signal_call_of w ws ≡ Some c → SayAll (call_fields c) (w ∷ ws)
unfolding signal_call_of
signal_call_said w ws c e = elim (choice_of (bytes_eq w (codes "kill")) _ _ (Some c) e) [
  | inl h ↦
      two_said target_of signal_of (λ t s. call.Kill t s) w ws c
      (λ v u x y is also. (same_text w (codes "kill") h.0, (is, (also, tt)))) h.1
  | inr other ↦ elim (choice_of (bytes_eq w (codes "sigset")) _ _ (Some c) other.1) [
    | inl h ↦
        two_said signal_of action_of (λ s a. call.SigSet s a) w ws c
        (λ v u x y is also. (same_text w (codes "sigset") h.0, (is, (also, tt)))) h.1
    | inr other ↦ elim (choice_of (bytes_eq w (codes "sigtake")) _ _ (Some c) other.1) [
      | inl h ↦ alone_said call.SigTake w ws c (same_text w (codes "sigtake") h.0, tt) h.1
      | inr other ↦ elim (choice_of (bytes_eq w (codes "pause")) _ _ (Some c) other.1) [
        | inl h ↦ alone_said call.Pause w ws c (same_text w (codes "pause") h.0, tt) h.1
        | inr other ↦ tty_call_said w ws c other.1
      ]
    ]
  ]
]

proc_call_said : (w : List ℕ) (ws : List (List ℕ)) (c : Call) → proc_call_of w ws ≡ Some c → SayAll (call_fields c) (w ∷ ws)
unfolding proc_call_of
proc_call_said w ws c e = elim (choice_of (bytes_eq w (codes "begin")) _ _ (Some c) e) [
  | inl h ↦ alone_said call.Begin w ws c (same_text w (codes "begin") h.0, tt) h.1
  | inr other ↦ elim (choice_of (bytes_eq w (codes "fork")) _ _ (Some c) other.1) [
    | inl h ↦ fork_said w ws c (same_text w (codes "fork") h.0) h.1
    | inr other ↦ elim (choice_of (bytes_eq w (codes "exec")) _ _ (Some c) other.1) [
      | inl h ↦
          two_said path_of bytes_of_word (λ p bs. call.Exec p bs) w ws c
          (λ v u x y is also. (same_text w (codes "exec") h.0, (is, (also, tt)))) h.1
      | inr other ↦ elim (choice_of (bytes_eq w (codes "exit")) _ _ (Some c) other.1) [
        | inl h ↦
            one_said status_of (λ n. call.Exit n) w ws c
            (λ v x is. (same_text w (codes "exit") h.0, (is, tt))) h.1
        | inr other ↦ elim (choice_of (bytes_eq w (codes "wait")) _ _ (Some c) other.1) [
          | inl h ↦ wait_said w ws c (same_text w (codes "wait") h.0) h.1
          | inr other ↦ elim (choice_of (bytes_eq w (codes "setsid")) _ _ (Some c) other.1) [
            | inl h ↦ alone_said call.SetSid w ws c (same_text w (codes "setsid") h.0, tt) h.1
            | inr other ↦ elim (choice_of (bytes_eq w (codes "setpgid")) _ _ (Some c) other.1) [
              | inl h ↦
                  two_said pid_of pid_of (λ n g. call.SetPgid n g) w ws c
                  (λ v u x y is also. (same_text w (codes "setpgid") h.0, (is, (also, tt)))) h.1
              | inr other ↦ elim (choice_of (bytes_eq w (codes "ps")) _ _ (Some c) other.1) [
                | inl h ↦ alone_said call.Ps w ws c (same_text w (codes "ps") h.0, tt) h.1
                | inr other ↦ elim (choice_of (bytes_eq w (codes "halt")) _ _ (Some c) other.1) [
                  | inl h ↦ alone_said call.Halt w ws c (same_text w (codes "halt") h.0, tt) h.1
                  | inr other ↦ signal_call_said w ws c other.1
                ]
              ]
            ]
          ]
        ]
      ]
    ]
  ]
]

pipe_call_said : (w : List ℕ) (ws : List (List ℕ)) (c : Call) → pipe_call_of w ws ≡ Some c → SayAll (call_fields c) (w ∷ ws)
unfolding pipe_call_of
pipe_call_said w ws c e = elim (choice_of (bytes_eq w (codes "pipe")) _ _ (Some c) e) [
  | inl h ↦ alone_said call.Pipe w ws c (same_text w (codes "pipe") h.0, tt) h.1
  | inr other ↦ proc_call_said w ws c other.1
]

cred_call_said : (w : List ℕ) (ws : List (List ℕ)) (c : Call) → cred_call_of w ws ≡ Some c → SayAll (call_fields c) (w ∷ ws)
unfolding cred_call_of
cred_call_said w ws c e = elim (choice_of (bytes_eq w (codes "setproclabel")) _ _ (Some c) e) [
  | inl h ↦
      one_said subject_label_of (λ s. call.SetProcLabel s) w ws c
      (λ v x is. (same_text w (codes "setproclabel") h.0, (is, tt))) h.1
  | inr other ↦ elim (choice_of (bytes_eq w (codes "ident")) _ _ (Some c) other.1) [
    | inl h ↦ alone_said call.Ident w ws c (same_text w (codes "ident") h.0, tt) h.1
    | inr other ↦ elim (choice_of (bytes_eq w (codes "setcred")) _ _ (Some c) other.1) [
      | inl h ↦
          three_said id_of id_of groups_of (λ u g gs. call.SetCred (record { uid = u; gid = g; groups = record { items = gs } })) w ws c
          (λ t u v x y z is also too. (same_text w (codes "setcred") h.0, (is, (also, (too, tt))))) h.1
      | inr other ↦ elim (choice_of (bytes_eq w (codes "umask")) _ _ (Some c) other.1) [
        | inl h ↦
            one_said mode_of (λ m. call.Umask m) w ws c
            (λ v x is. (same_text w (codes "umask") h.0, (is, tt))) h.1
        | inr other ↦ pipe_call_said w ws c other.1
      ]
    ]
  ]
]

attr_call_said : (w : List ℕ) (ws : List (List ℕ)) (c : Call) → attr_call_of w ws ≡ Some c → SayAll (call_fields c) (w ∷ ws)
unfolding attr_call_of
attr_call_said w ws c e = elim (choice_of (bytes_eq w (codes "info")) _ _ (Some c) e) [
  | inl h ↦
      one_said path_of (λ p. call.Info p) w ws c
      (λ v x is. (same_text w (codes "info") h.0, (is, tt))) h.1
  | inr other ↦ elim (choice_of (bytes_eq w (codes "chmod")) _ _ (Some c) other.1) [
    | inl h ↦
        two_said path_of mode_of (λ p m. call.Chmod p m) w ws c
        (λ v u x y is also. (same_text w (codes "chmod") h.0, (is, (also, tt)))) h.1
    | inr other ↦ elim (choice_of (bytes_eq w (codes "chown")) _ _ (Some c) other.1) [
      | inl h ↦
          three_said path_of id_of id_of (λ p u g. call.Chown p u g) w ws c
          (λ t u v x y z is also too. (same_text w (codes "chown") h.0, (is, (also, (too, tt))))) h.1
      | inr other ↦ elim (choice_of (bytes_eq w (codes "setacl")) _ _ (Some c) other.1) [
        | inl h ↦
            three_said path_of which_of entries_of (λ p l es. call.SetAcl p l es) w ws c
            (λ t u v x y z is also too. (same_text w (codes "setacl") h.0, (is, (also, (too, tt))))) h.1
        | inr other ↦ elim (choice_of (bytes_eq w (codes "getacl")) _ _ (Some c) other.1) [
          | inl h ↦
              two_said path_of which_of (λ p l. call.GetAcl p l) w ws c
              (λ v u x y is also. (same_text w (codes "getacl") h.0, (is, (also, tt)))) h.1
          | inr other ↦ elim (choice_of (bytes_eq w (codes "setlabel")) _ _ (Some c) other.1) [
            | inl h ↦
                two_said path_of label_of (λ p e. call.SetLabel p e) w ws c
                (λ v u x y is also. (same_text w (codes "setlabel") h.0, (is, (also, tt)))) h.1
            | inr other ↦ elim (choice_of (bytes_eq w (codes "getlabel")) _ _ (Some c) other.1) [
              | inl h ↦
                  one_said path_of (λ p. call.GetLabel p) w ws c
                  (λ v x is. (same_text w (codes "getlabel") h.0, (is, tt))) h.1
              | inr other ↦ cred_call_said w ws c other.1
            ]
          ]
        ]
      ]
    ]
  ]
]

dir_call_said : (w : List ℕ) (ws : List (List ℕ)) (c : Call) → dir_call_of w ws ≡ Some c → SayAll (call_fields c) (w ∷ ws)
unfolding dir_call_of
dir_call_said w ws c e = elim (choice_of (bytes_eq w (codes "chdir")) _ _ (Some c) e) [
  | inl h ↦
      one_said path_of (λ p. call.Chdir p) w ws c
      (λ v x is. (same_text w (codes "chdir") h.0, (is, tt))) h.1
  | inr other ↦ elim (choice_of (bytes_eq w (codes "mkdir")) _ _ (Some c) other.1) [
    | inl h ↦
        two_said path_of mode_of (λ p m. call.Mkdir p m) w ws c
        (λ v u x y is also. (same_text w (codes "mkdir") h.0, (is, (also, tt)))) h.1
    | inr other ↦ elim (choice_of (bytes_eq w (codes "rmdir")) _ _ (Some c) other.1) [
      | inl h ↦
          one_said path_of (λ p. call.Rmdir p) w ws c
          (λ v x is. (same_text w (codes "rmdir") h.0, (is, tt))) h.1
      | inr other ↦ elim (choice_of (bytes_eq w (codes "unlink")) _ _ (Some c) other.1) [
        | inl h ↦
            one_said path_of (λ p. call.Unlink p) w ws c
            (λ v x is. (same_text w (codes "unlink") h.0, (is, tt))) h.1
        | inr other ↦ elim (choice_of (bytes_eq w (codes "list")) _ _ (Some c) other.1) [
          | inl h ↦
              two_said path_of from_of (λ p k. call.List p k) w ws c
              (λ v u x y is also. (same_text w (codes "list") h.0, (is, (also, tt)))) h.1
          | inr other ↦ attr_call_said w ws c other.1
        ]
      ]
    ]
  ]
]

io_call_said : (w : List ℕ) (ws : List (List ℕ)) (c : Call) → io_call_of w ws ≡ Some c → SayAll (call_fields c) (w ∷ ws)
unfolding io_call_of
io_call_said w ws c e = elim (choice_of (bytes_eq w (codes "read")) _ _ (Some c) e) [
  | inl h ↦
      two_said fd_of max_of (λ n m. call.Read n m) w ws c
      (λ v u x y is also. (same_text w (codes "read") h.0, (is, (also, tt)))) h.1
  | inr other ↦ elim (choice_of (bytes_eq w (codes "write")) _ _ (Some c) other.1) [
    | inl h ↦
        two_said fd_of bytes_of_word (λ n bs. call.Write n bs) w ws c
        (λ v u x y is also. (same_text w (codes "write") h.0, (is, (also, tt)))) h.1
    | inr other ↦ dir_call_said w ws c other.1
  ]
]

open_call_said : (w : List ℕ) (ws : List (List ℕ)) (c : Call) → open_call_of w ws ≡ Some c → SayAll (call_fields c) (w ∷ ws)
unfolding open_call_of
open_call_said w ws c e = elim (choice_of (bytes_eq w (codes "open")) _ _ (Some c) e) [
  | inl h ↦ open_said w ws c (same_text w (codes "open") h.0) h.1
  | inr other ↦ elim (choice_of (bytes_eq w (codes "close")) _ _ (Some c) other.1) [
    | inl h ↦
        one_said fd_of (λ n. call.Close n) w ws c
        (λ v x is. (same_text w (codes "close") h.0, (is, tt))) h.1
    | inr other ↦ elim (choice_of (bytes_eq w (codes "dup")) _ _ (Some c) other.1) [
      | inl h ↦
          one_said fd_of (λ n. call.Dup n) w ws c
          (λ v x is. (same_text w (codes "dup") h.0, (is, tt))) h.1
      | inr other ↦ elim (choice_of (bytes_eq w (codes "dup2")) _ _ (Some c) other.1) [
        | inl h ↦
            two_said fd_of fd_of (λ n m. call.Dup2 n m) w ws c
            (λ v u x y is also. (same_text w (codes "dup2") h.0, (is, (also, tt)))) h.1
        | inr other ↦ io_call_said w ws c other.1
      ]
    ]
  ]
]

-- a call that is read
pub call_said : (w : List ℕ) (ws : List (List ℕ)) (c : Call) → call_of w ws ≡ Some c → SayAll (call_fields c) (w ∷ ws)
call_said w ws c e = open_call_said w ws c e
