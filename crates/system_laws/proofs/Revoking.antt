-- Which events revoke a line: a revoke that is answered, and the end of a session's leader.
use Rattle.std.proofs.Common.{◌≡◌, ℕ, Bool, true, false, cond, List, [], ◌∷◌, refl, ap, ◌∙◌}
use Rattle.std.specs.Prelude.{◌||◌}
use Rattle.std.specs.List.{list_any}
use Rattle.system_model.specs.State.{State, Revokes, last_revoke}
use Rattle.system_model.specs.LineEffects.{LineEffect, open_line, receive_byte, read_line, write_line, take_output, set_carrier, end_line, revoke_line}
use Rattle.system_model.specs.LineEffects.{flush_line, retune_line, set_session, set_foreground, revokes_after}
use Rattle.system_laws.specs.Laws.{line_revokes, is_revoke_of}
use Rattle.system_model.specs.Effects.{Effect, on_files, on_pipes, on_lines, on_tree, on_processes, halt, tag, tag_all}

line-mark : (revokes : Revokes) (p n : ℕ) (e : LineEffect)
    → last_revoke (revokes_after revokes p e) n ≡ cond (line_revokes n e) p (last_revoke revokes n)
unfolding revokes_after
line-mark revokes p n (open_line m t) = refl
line-mark revokes p n (receive_byte m b) = refl
line-mark revokes p n (read_line m max) = refl
line-mark revokes p n (write_line m bytes) = refl
line-mark revokes p n (take_output m max) = refl
line-mark revokes p n (set_carrier m up) = refl
line-mark revokes p n (end_line m) = refl
line-mark revokes p n (revoke_line m) = refl
line-mark revokes p n (flush_line m input output) = refl
line-mark revokes p n (retune_line m t) = refl
line-mark revokes p n (set_session m session group) = refl
line-mark revokes p n (set_foreground m group) = refl

one-mark : (s : State) (p n : ℕ) (e : Effect) → last_revoke (tag s p e).revokes n ≡ cond (is_revoke_of n e) p (last_revoke s.revokes n)
one-mark s p n (on_files e) = refl
one-mark s p n (on_pipes e) = refl
one-mark s p n (on_lines e) = line-mark s.revokes p n e
one-mark s p n (on_tree e) = refl
one-mark s p n (on_processes e) = refl
one-mark s p n halt = refl

marked-twice : (first rest : Bool) (p last : ℕ) → cond rest p (cond first p last) ≡ cond (first || rest) p last
marked-twice true true p last = refl
marked-twice true false p last = refl
marked-twice false true p last = refl
marked-twice false false p last = refl

-- the position that is kept of a line is that of the event, where one of its effects revokes the line
pub all_mark : (s : State) (p n : ℕ) (es : List Effect)
    → last_revoke (tag_all s p es).revokes n ≡ cond (list_any (is_revoke_of n) es) p (last_revoke s.revokes n)
all_mark s p n [] = refl
all_mark s p n (e ∷ es) =
    all_mark (tag s p e) p n es
    ∙ ap (λ last. cond (list_any (is_revoke_of n) es) p last) (one-mark s p n e)
    ∙ marked-twice (is_revoke_of n e) (list_any (is_revoke_of n) es) p (last_revoke s.revokes n)
