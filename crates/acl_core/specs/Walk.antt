-- What one walk over the entries finds out for a caller.
use Rattle.std.specs.Prelude.{ℕ, Bool, true, false, ◌&&◌, ◌||◌, Option, Some, None, if◌then◌else◌}
use Rattle.acl_core.specs.declared.perm.Perm.{Perm}
use Rattle.acl_core.specs.declared.cred.Cred.{Cred}
use Rattle.acl_core.specs.declared.entry.Tag.TheVariants.{UserObj, User, Mask, Other}
use Rattle.acl_core.specs.declared.entry.Entry.{Entry}
use Rattle.acl_core.specs.declared.walk.Findings.{Findings}
use Rattle.acl_core.specs.Perm.{has_all}
use Rattle.acl_core.specs.Entry.{same_tag}
use Rattle.acl_core.specs.Deciding.{matches_group}

-- one of the groups, or this one
abbrev pub either : Option Bool → Bool → Option Bool
either None covers = Some covers
either (Some found) covers = Some (found || covers)

-- what is found with one more entry
abbrev pub with_entry : Cred → ℕ → Perm → Findings → Entry → Findings
with_entry cred group want found e = record {
  owner = if same_tag e.tag UserObj then has_all e.perm want else found.owner;
  user = if same_tag e.tag (User cred.uid) then Some (has_all e.perm want) else found.user;
  groups = if matches_group cred group e.tag then either found.groups (has_all e.perm want) else found.groups;
  mask = if same_tag e.tag Mask then has_all e.perm want else found.mask;
  other = if same_tag e.tag Other then has_all e.perm want else found.other;
}

-- before the first entry
abbrev pub nothing_found : Findings
nothing_found = record { owner = false; user = None; groups = None; mask = true; other = false }

-- the answer of the user's entry, else of the groups, limited by the mask, else of other
abbrev pub answer_of : Option Bool → Option Bool → Findings → Bool
answer_of (Some user) groups found = user && found.mask
answer_of None (Some groups) found = groups && found.mask
answer_of None None found = found.other

-- the answer of the owner's entry to the owner
abbrev pub answer : Bool → Findings → Bool
answer is_owner found = if is_owner then found.owner else answer_of found.user found.groups found
