-- The text of a definition, and the words that it is read as.
use Rattle.std.proofs.Common.{◌≡◌, ℕ, ◌≤◌, Bool, true, false, not, eqb, List, [], ◌∷◌, get_or, All, refl, sym, ap, ◌∙◌, arith}
use Rattle.std.proofs.lemmas.Bool.{eqb-true, ne_eqb}
use Rattle.std.proofs.lemmas.List.Elements.{All-weaker, All-from_get_or}
use Rattle.std.proofs.lemmas.List.Splits.{slice_split_none, slice_split_at, join_with_byte-slice_split}
use Rattle.std.proofs.lemmas.List.Sums.{AllPass-from_list_all}
use Rattle.std.proofs.lemmas.Fmt.{decimal_is_IsNumeral}
use Rattle.std.proofs.lemmas.Str.Parse.{digit_at}
use Rattle.std.specs.Fmt.{decimal}
use Rattle.std.specs.List.{AllByRecursion, join_with_byte, list_all}
use Rattle.pm_base.specs.declared.class.Class.{Class}
use Rattle.pm_base.specs.declared.class.Class.TheVariants.{ManagedElement, GnbCuCp, NrCellCu, GnbDu, NrCellDu}
use Rattle.pm_base.specs.Class.{class_name}
use Rattle.pm_base.specs.Names.{is_name_char, IsMeasureName}
use Rattle.pm_meas.specs.declared.kind.Kind.{Kind}
use Rattle.pm_meas.specs.declared.kind.Kind.TheVariants.{Cc, Gauge, Der, Si}
use Rattle.pm_meas.specs.declared.kind.Reduce.{Reduce}
use Rattle.pm_meas.specs.declared.kind.Reduce.TheVariants.{Sum, Mean, Max, Min}
use Rattle.pm_meas.specs.declared.def.Def.{Def}
use Rattle.pm_base.specs.Pieces.{words_of}
use Rattle.pm_meas.specs.Def.{kind_word, reduce_word, number_words, IsKind, IsDef, ReadAs, def_text}

-- no byte is a space
abbrev pub HasNoSpace : List ℕ → Type 0
HasNoSpace bytes = All (λ b. eqb b 32 ≡ false) bytes

-- words without spaces are the words of their joined text
pub words_of-join : (w : List ℕ) (ws : List (List ℕ)) → HasNoSpace w → AllByRecursion HasNoSpace ws → words_of (join_with_byte 32 (w ∷ ws)) ≡ w ∷ ws
words_of-join w [] one more = slice_split_none (λ b. eqb b 32) w one
words_of-join w (v ∷ vs) one more = slice_split_at (λ b. eqb b 32) w 32 (join_with_byte 32 (v ∷ vs)) one refl ∙ ap (λ t. w ∷ t) (words_of-join v vs more.0 more.1)

-- a literal has no space where a test says so
HasNoSpace-tested : (bytes : List ℕ) → list_all (λ b. not (eqb b 32)) bytes ≡ true → HasNoSpace bytes
HasNoSpace-tested bytes passes = All-weaker (λ b. not (eqb b 32) ≡ true) (λ b. eqb b 32 ≡ false) (λ b is. flip (eqb b 32) is) bytes (AllPass-from_list_all (λ b. not (eqb b 32)) bytes passes)
  where
    flip : (t : Bool) → not t ≡ true → t ≡ false
    flip true is = sym is
    flip false is = refl

HasNoSpace-name : (name : List ℕ) → IsMeasureName name → HasNoSpace name
HasNoSpace-name name is = All-weaker (λ b. is_name_char b ≡ true) (λ b. eqb b 32 ≡ false) (λ b passes. by b passes (eqb b 32) refl) name is.alphabet
  where
    by : (b : ℕ) → is_name_char b ≡ true → (t : Bool) → eqb b 32 ≡ t → t ≡ false
    by b passes true same = let space : is_name_char 32 ≡ true = ap is_name_char (sym (eqb-true b 32 same)) ∙ passes in sym space
    by b passes false same = refl

HasNoSpace-class : (class : Class) → HasNoSpace (class_name class)
HasNoSpace-class ManagedElement = HasNoSpace-tested (class_name ManagedElement) refl
HasNoSpace-class GnbCuCp = HasNoSpace-tested (class_name GnbCuCp) refl
HasNoSpace-class NrCellCu = HasNoSpace-tested (class_name NrCellCu) refl
HasNoSpace-class GnbDu = HasNoSpace-tested (class_name GnbDu) refl
HasNoSpace-class NrCellDu = HasNoSpace-tested (class_name NrCellDu) refl

HasNoSpace-kind : (kind : Kind) → HasNoSpace (kind_word kind)
HasNoSpace-kind Cc = HasNoSpace-tested (kind_word Cc) refl
HasNoSpace-kind Gauge = HasNoSpace-tested (kind_word Gauge) refl
HasNoSpace-kind (Der n) = HasNoSpace-tested (kind_word (Der n)) refl
HasNoSpace-kind Si = HasNoSpace-tested (kind_word Si) refl

HasNoSpace-reduce : (reduce : Reduce) → HasNoSpace (reduce_word reduce)
HasNoSpace-reduce Sum = HasNoSpace-tested (reduce_word Sum) refl
HasNoSpace-reduce Mean = HasNoSpace-tested (reduce_word Mean) refl
HasNoSpace-reduce Max = HasNoSpace-tested (reduce_word Max) refl
HasNoSpace-reduce Min = HasNoSpace-tested (reduce_word Min) refl

HasNoSpace-decimal : (n : ℕ) → n ≤ 1000 → HasNoSpace (decimal n)
HasNoSpace-decimal n most =
    let digits = (decimal_is_IsNumeral n (omega arith)).0.1 in
    All-from_get_or (λ b. eqb b 32 ≡ false) (decimal n) 0 (λ i within. let range = digit_at (decimal n) i digits within in ne_eqb (get_or (decimal n) i 0) 32 (λ same. omega (arith, range, same)))

HasNoSpace-numbers : (kind : Kind) → IsKind kind → AllByRecursion HasNoSpace (number_words kind)
HasNoSpace-numbers Cc is = tt
HasNoSpace-numbers Gauge is = tt
HasNoSpace-numbers (Der n) is = (HasNoSpace-decimal n is.1, tt)
HasNoSpace-numbers Si is = tt

-- the text of a permitted definition reads as it
pub text_reads_back : (d : Def) → IsDef d → ReadAs (words_of (def_text d)) d
text_reads_back d is = record {
  words_are = sym (words_of-join d.name _ (HasNoSpace-name d.name is.name_is)
      (HasNoSpace-class d.class, (HasNoSpace-kind d.kind, (HasNoSpace-reduce d.reduce, HasNoSpace-numbers d.kind is.method_is.kind_is))));
  def_is = is;
}

-- and no other line does
pub text_only : (line : List ℕ) (d : Def) → ReadAs (words_of line) d → line ≡ def_text d
text_only line d read = sym (join_with_byte-slice_split 32 line) ∙ ap (join_with_byte 32) (sym read.words_are)
