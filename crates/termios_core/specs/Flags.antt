-- The flags of a terminal and their words (termios(4), stty(1)).
use Rattle.std.specs.Prelude.{ℕ, Bool, List, [], ◌∷◌, filter, codes, if◌then◌else◌}
use Rattle.std.specs.List.{list_any}
use Rattle.std.specs.Str.{bytes_eq}
use Rattle.termios_core.specs.declared.flags.Flag.{Flag}
use Rattle.termios_core.specs.declared.flags.Flag.TheVariants.{Istrip, Inlcr, Igncr, Icrnl, Ixon, Opost, Onlcr, Ocrnl, Clocal, Hupcl, Isig, Icanon, Echo, Echoe, Echok, Echonl, Echoctl, Noflsh, Tostop}
use Rattle.termios_core.specs.declared.flags.Flags.{Flags}

-- every flag, in the order in which they are printed
abbrev pub all_flags : List Flag
all_flags =
    Istrip ∷ Inlcr ∷ Igncr ∷ Icrnl ∷ Ixon ∷ Opost ∷ Onlcr ∷ Ocrnl ∷ Clocal ∷ Hupcl ∷ Isig ∷ Icanon ∷ Echo ∷ Echoe ∷ Echok ∷ Echonl ∷ Echoctl ∷ Noflsh ∷ Tostop ∷
    []

-- the word of a flag
abbrev pub word : Flag → List ℕ
word Istrip = codes "istrip"
word Inlcr = codes "inlcr"
word Igncr = codes "igncr"
word Icrnl = codes "icrnl"
word Ixon = codes "ixon"
word Opost = codes "opost"
word Onlcr = codes "onlcr"
word Ocrnl = codes "ocrnl"
word Clocal = codes "clocal"
word Hupcl = codes "hupcl"
word Isig = codes "isig"
word Icanon = codes "icanon"
word Echo = codes "echo"
word Echoe = codes "echoe"
word Echok = codes "echok"
word Echonl = codes "echonl"
word Echoctl = codes "echoctl"
word Noflsh = codes "noflsh"
word Tostop = codes "tostop"

-- whether two flags are one: no two have the same word
abbrev pub is_same : Flag → Flag → Bool
is_same flag other = bytes_eq (word flag) (word other)

-- whether a flag is on
abbrev pub is_on : Flags → Flag → Bool
is_on flags Istrip = flags.istrip
is_on flags Inlcr = flags.inlcr
is_on flags Igncr = flags.igncr
is_on flags Icrnl = flags.icrnl
is_on flags Ixon = flags.ixon
is_on flags Opost = flags.opost
is_on flags Onlcr = flags.onlcr
is_on flags Ocrnl = flags.ocrnl
is_on flags Clocal = flags.clocal
is_on flags Hupcl = flags.hupcl
is_on flags Isig = flags.isig
is_on flags Icanon = flags.icanon
is_on flags Echo = flags.echo
is_on flags Echoe = flags.echoe
is_on flags Echok = flags.echok
is_on flags Echonl = flags.echonl
is_on flags Echoctl = flags.echoctl
is_on flags Noflsh = flags.noflsh
is_on flags Tostop = flags.tostop

-- the flags for which a test says yes
abbrev pub flags_where : (Flag → Bool) → Flags
flags_where test = record {
  istrip = test Istrip;
  inlcr = test Inlcr;
  igncr = test Igncr;
  icrnl = test Icrnl;
  ixon = test Ixon;
  opost = test Opost;
  onlcr = test Onlcr;
  ocrnl = test Ocrnl;
  clocal = test Clocal;
  hupcl = test Hupcl;
  isig = test Isig;
  icanon = test Icanon;
  echo = test Echo;
  echoe = test Echoe;
  echok = test Echok;
  echonl = test Echonl;
  echoctl = test Echoctl;
  noflsh = test Noflsh;
  tostop = test Tostop;
}

-- the flags that stand in a list, in whatever order and however often
abbrev pub flags_of : List Flag → Flags
flags_of list = flags_where (λ flag. list_any (is_same flag) list)

-- the flags with one of them on or off, and the others as they were
abbrev pub with_flag : Flags → Flag → Bool → Flags
with_flag flags flag on = flags_where (λ other. if is_same other flag then on else is_on flags other)

-- the flags that are on, in the order in which they are printed
unfoldable pub on_flags : Flags → List Flag
on_flags flags = filter (is_on flags) all_flags
