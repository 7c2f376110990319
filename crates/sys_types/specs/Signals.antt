-- The signals, with the numbers of signal(3), and their words.
use Rattle.std.specs.Prelude.{ℕ, List, [], ◌∷◌, codes}
use Rattle.sys_types.specs.declared.sig.Sig.{Sig}
use Rattle.sys_types.specs.declared.sig.Sig.TheVariants as sig

abbrev pub signals : List Sig
signals =
    sig.HUP ∷ sig.INT ∷ sig.QUIT ∷ sig.KILL ∷ sig.PIPE ∷ sig.TERM ∷ sig.STOP ∷ sig.TSTP
    ∷ sig.CONT ∷ sig.CHLD ∷ sig.TTIN ∷ sig.TTOU ∷ sig.USR1 ∷ sig.USR2 ∷ []

abbrev pub sig_number : Sig → ℕ
sig_number sig.HUP = 1
sig_number sig.INT = 2
sig_number sig.QUIT = 3
sig_number sig.KILL = 9
sig_number sig.PIPE = 13
sig_number sig.TERM = 15
sig_number sig.STOP = 17
sig_number sig.TSTP = 18
sig_number sig.CONT = 19
sig_number sig.CHLD = 20
sig_number sig.TTIN = 21
sig_number sig.TTOU = 22
sig_number sig.USR1 = 30
sig_number sig.USR2 = 31

abbrev pub sig_word : Sig → List ℕ
sig_word sig.HUP = codes "HUP"
sig_word sig.INT = codes "INT"
sig_word sig.QUIT = codes "QUIT"
sig_word sig.KILL = codes "KILL"
sig_word sig.PIPE = codes "PIPE"
sig_word sig.TERM = codes "TERM"
sig_word sig.STOP = codes "STOP"
sig_word sig.TSTP = codes "TSTP"
sig_word sig.CONT = codes "CONT"
sig_word sig.CHLD = codes "CHLD"
sig_word sig.TTIN = codes "TTIN"
sig_word sig.TTOU = codes "TTOU"
sig_word sig.USR1 = codes "USR1"
sig_word sig.USR2 = codes "USR2"
