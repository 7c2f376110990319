-- Words, and what is left behind them.
use Rattle.std.proofs.Common.{◌≡◌, ℕ, ◌<◌, ◌≤◌, true, false, cond, not, List, [], ◌∷◌, ◌++◌, length, Result, Ok, sym, ap, ◌∙◌, arith, inl, inr}
use Rattle.sh_text.specs.declared.words.Quoting.{Quoting}
use Rattle.sh_text.specs.declared.words.Quoting.TheVariants.{Bare, InQuotes, BehindBackslash}
use Rattle.sh_text.specs.Bytes.{ends_word}
use Rattle.sh_text.specs.Reading.{is_end, is_kept, quoting_after, word_end, word_from, begins_word}
use Rattle.sh_text.specs.declared.fault.Stop.{Stop}
use Rattle.sh_text.proofs.StepLemmas.{choice_cases, ok_is}

abbrev pub word_and_rest : List ℕ → List ℕ → Result (List ℕ × List ℕ) Stop
word_and_rest word rest = Ok (word, rest)

same_rest : (word rest word2 rest2 : List ℕ) → word_and_rest word rest ≡ word_and_rest word2 rest2 → rest ≡ rest2
same_rest word rest word2 rest2 e = ap (λ (x : List ℕ × List ℕ). x.1) (ok_is (word, rest) (word2, rest2) e)

end_rest : (quoting : Quoting) (word word2 rest : List ℕ) → word_end quoting word ≡ word_and_rest word2 rest → length rest ≤ 0
end_rest Bare word word2 rest e = rw (← same_rest word [] word2 rest e) (omega arith)
end_rest InQuotes word word2 rest e = absurd cc
end_rest BehindBackslash word word2 rest e = absurd cc

-- no more bytes are left than there were
pub word_from_rest : (quoting : Quoting) (word bytes word2 rest : List ℕ) → word_from quoting word bytes ≡ word_and_rest word2 rest → length rest ≤ length bytes
unfolding word_from
word_from_rest quoting word [] word2 rest e = end_rest quoting word word2 rest e
word_from_rest quoting word (b ∷ bytes) word2 rest e = elim (choice_cases (is_end quoting b) _ _ (word_and_rest word2 rest) e) [
  | inl ends ↦ rw (← same_rest word (b ∷ bytes) word2 rest ends.1) (omega arith)
  | inr more ↦ omega (arith, word_from_rest (quoting_after quoting b) (cond (is_kept quoting b) (word ++ b ∷ []) word) bytes word2 rest more.1)
]

no_both : (b : ℕ) → not (ends_word b) ≡ true → ends_word b ≡ true → ⊥
no_both b begins ends = let wrong : true ≡ false = sym begins ∙ ap not ends in cc

-- a word takes at least one byte
pub word_takes : (bytes word rest : List ℕ) → begins_word bytes ≡ true → word_from Bare [] bytes ≡ word_and_rest word rest → length rest < length bytes
unfolding word_from
word_takes [] word rest begins e = absurd cc
word_takes (b ∷ bytes) word rest begins e = elim (choice_cases (ends_word b) _ _ (word_and_rest word rest) e) [
  | inl ends ↦ absurd (no_both b begins ends.0)
  | inr more ↦ omega (arith, word_from_rest (quoting_after Bare b) (cond (is_kept Bare b) (b ∷ []) []) bytes word rest more.1)
]
