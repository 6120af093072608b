-- Specifiers of declarations, and declarations by their specifiers and declarators (7.1).
use Rattle.std.proofs.Common.{◌≡◌, ℕ, Bool, true, false, nat_le, List, [], ◌∷◌, length, drop, map, Option, Some, None, refl, sym, ap, subst, ◌∙◌}
use Rattle.std.specs.List.{list_all}
use Rattle.cf_base.specs.declared.limit.Bound.TheVariants as bound_of
use Rattle.cf_syntax.specs.declared.specifier.ClassKey.TheVariants as key
use Rattle.cf_syntax.specs.declared.specifier.TypeSpecifier.{TypeSpecifier}
use Rattle.cf_syntax.specs.declared.specifier.TypeSpecifier.TheVariants as specifier
use Rattle.cf_unit.specs.declared.enumeration.EnumDef.{EnumDef}
use Rattle.cf_elab.specs.Answer.{Answer, Made, Refused, Passed, Elab, onward, gives, done, all, for_each}
use Rattle.cf_elab.specs.Built as built
use Rattle.cf_elab.specs.Complete.{within, most_bytes, bytes_of, numbers_from, types_within}
use Rattle.cf_elab.specs.Declaration as row
use Rattle.cf_elab.specs.Declaration.{Declares}
use Rattle.cf_elab.specs.Declarator.{word_of}
use Rattle.cf_elab.specs.Enumeration.{item_of, enumeration}
use Rattle.cf_elab.specs.Env.{Env, Name}
use Rattle.cf_elab.specs.Objects.{Reached}
use Rattle.cf_elab.specs.Specifiers.{Word, defined_word, Gathered, gathered}
use Rattle.cf_elab.specs.Trees.{Specified, SpecifierRow, Worded, only, in_turn, words, plain_row, defined_row, word_in_declaration, alias_of, declaration_of}
use Rattle.cf_elab_valid.specs.Answers.{Fine, FineAs}
use Rattle.cf_elab_valid.specs.Scene.{Scene, IsScene, Steps, Within, Classless, Holds}
use Rattle.cf_elab_valid.proofs.FitRows.{Still, still-fine}
use Rattle.cf_elab_valid.proofs.Named.{IsThere, WordFits, WordsFit, word-later, word-fine, NamedFits, gathered_named}
use Rattle.cf_elab_valid.proofs.Options.{never_none}
use Rattle.cf_elab_valid.proofs.Ways.{as-made, as-onward, as-behind, fine-before, made-fine, onward-fine, within-before, When}
use Rattle.cf_elab_valid_files.specs.Declarations.Items.{AreItems}
use Rattle.cf_elab_valid_files.proofs.DeclarationsLaws.Enumerations.{enumeration-fine}

-- no bodies wait
abbrev pub IsDone : Specified → Type 0
IsDone x = x.later ≡ done

abbrev pub SpecifiedFits : Specified → Env → Type 0
SpecifiedFits x e = WordFits x.word e

-- a specifier, wherever it is elaborated
pub record IsSpecifier (s : Scene) (x : SpecifierRow) : Type 0 where
  pub fine : (alias : Option Name) (e : Env) → Classless e → When s e (Holds s e) → FineAs s IsDone SpecifiedFits e (x.run alias e)

abbrev pub AreSpecifiers : Scene → List SpecifierRow → Type 0
AreSpecifiers s [] = Unit {0}
AreSpecifiers s (x ∷ xs) = IsSpecifier s x × AreSpecifiers s xs

abbrev AllDone : List Specified → Type 0
AllDone [] = Unit {0}
AllDone (x ∷ xs) = IsDone x × AllDone xs

abbrev AllFit : List Specified → Env → Type 0
AllFit [] e = Unit {0}
AllFit (x ∷ xs) e = SpecifiedFits x e × AllFit xs e

all-done : (xs : List Specified) (e : Env) → AllDone xs → for_each (λ (x : Specified). x.later) xs e ≡ Made tt e
all-done [] e d = refl
all-done (x ∷ xs) e d = ap (λ (run : Elab (Unit {0})). onward (run e) (λ _. for_each (λ (y : Specified). y.later) xs)) d.0 ∙ all-done xs e d.1

all-words : (xs : List Specified) (e : Env) → AllFit xs e → WordsFit (map (λ (x : Specified). x.word) xs) e
all-words [] e f = tt
all-words (x ∷ xs) e f = (f.0, all-words xs e f.1)

module _ (s : Scene) (scene : IsScene s) where
  -- ---- one specifier

  pub plain-specifier : (x : TypeSpecifier) → built.of_specifier x ≡ None → IsSpecifier s (plain_row x)
  plain-specifier x b = record {
    fine = λ alias e c h. as-behind s WordFits IsDone SpecifiedFits e (word_in_declaration x e) (λ w. gives (only w)) (by x b e c h) (λ w e1 g c1 h1 f. as-made s IsDone SpecifiedFits e1 (only w) refl c1 h1 f);
  }
    where
      by : (x : TypeSpecifier) → built.of_specifier x ≡ None → (e : Env) → Classless e → When s e (Holds s e) → Fine s WordFits e (word_in_declaration x e)
      by (specifier.Elaborated at key.Class path) q e c h = never_none at q
      by (specifier.Elaborated at key.Struct path) q e c h = never_none at q
      by (specifier.Elaborated at key.Enum path) q e c h = word-fine s (specifier.Elaborated at key.Enum path) e q c h
      by (specifier.Storage at x) q e c h = word-fine s (specifier.Storage at x) e q c h
      by (specifier.Const at) q e c h = word-fine s (specifier.Const at) e q c h
      by (specifier.Basic at x) q e c h = word-fine s (specifier.Basic at x) e q c h
      by (specifier.Named path) q e c h = word-fine s (specifier.Named path) e q c h

  pub enumeration-specifier : (d : EnumDef) → AreItems s (map item_of d.enumerators) → IsSpecifier s (defined_row d.at (λ alias e. onward (enumeration alias d e) (λ t. gives (t, done))))
  enumeration-specifier d items = record { fine = λ alias e c h. by e (enumeration alias d e) (enumeration-fine s scene alias d.at d.name (map item_of d.enumerators) items e c h) }
    where
      by : (e : Env) (r : Answer ℕ) → Fine s IsThere e r
          → FineAs s IsDone SpecifiedFits e (onward (onward r (λ t. gives (t, done))) (λ (t : ℕ × Elab (Unit {0})). gives (record { word = defined_word d.at t.0; later = t.1 })))
      by e (Made t f) g = (record { steps = g.steps; classless = g.classless; holds = g.holds; made = g.made }, refl)
      by e (Refused rule at) g = tt
      by e (Passed bound most) g = tt

  -- ---- all of them

  specified-fine : (alias : Option Name) (xs : List SpecifierRow) (e : Env) → AreSpecifiers s xs → Classless e → When s e (Holds s e) → FineAs s AllDone AllFit e (all (map (λ (x : SpecifierRow). x.run alias) xs) e)
  specified-fine alias [] e k c h = as-made s AllDone AllFit e [] tt c h (λ w. tt)
  specified-fine alias (x ∷ xs) e k c h =
      as-onward s IsDone SpecifiedFits AllDone AllFit e (x.run alias e) _ (k.0.fine alias e c h)
      (λ y e1 d g c1 h1 f. as-onward s AllDone AllFit AllDone AllFit e1 (all (map (λ (z : SpecifierRow). z.run alias) xs) e1) (λ ys. gives (y ∷ ys)) (specified-fine alias xs e1 k.1 c1 h1)
      (λ ys e2 ds g2 c2 h2 fs. as-made s AllDone AllFit e2 (y ∷ ys) (d, ds) c2 h2 (λ w. (word-later e1 e2 y.word g2 (f (within-before e1 e2 s g2 w)), fs w))))

  -- the specifiers, and then what waits
  pub words-then : {B : Type 0} (Q : B → Env → Type 0) (alias : Option Name) (xs : List SpecifierRow) (e : Env) (go : Worded → Env → Answer B) → AreSpecifiers s xs → Classless e → When s e (Holds s e)
      → ((ws : List Word) (later : Elab (Unit {0})) (e1 : Env) → Steps e e1 → Classless e1 → When s e1 (Holds s e1) → When s e1 (WordsFit ws e1) → Fine s Q e1 (go (record { list = ws; later = later }) e1))
      → Fine s Q e (onward (words alias xs e) (λ ws f. onward (ws.later f) (λ _. go ws)))
  words-then Q alias xs e go k c h next =
      joined (all (map (λ (x : SpecifierRow). x.run alias) xs) e) (specified-fine alias xs e k c h)
    where
      joined : (r : Answer (List Specified)) → FineAs s AllDone AllFit e r → Fine s Q e (onward (onward r (λ ys. gives (in_turn ys))) (λ ws f. onward (ws.later f) (λ _. go ws)))
      joined (Made ys f) g =
          fine-before s Q e f (onward (for_each (λ (x : Specified). x.later) ys f) (λ _. go (in_turn ys))) g.0.steps
          (subst (λ r. Fine s Q f (onward r (λ _. go (in_turn ys)))) (sym (all-done ys f g.1))
          (next (map (λ (x : Specified). x.word) ys) (for_each (λ (x : Specified). x.later) ys) f g.0.steps g.0.classless g.0.holds (λ w. all-words ys f (g.0.made w))))
      joined (Refused rule at) g = tt
      joined (Passed bound most) g = tt

  -- ---- a declaration

  pub within-still : (count : ℕ) (e : Env) → Still e (types_within count e)
  within-still count e = by (list_all (λ t. nat_le (bytes_of e t) most_bytes) (numbers_from count (drop count e.types.types)))
    where
      by : (b : Bool) → Still e (within b bound_of.Size most_bytes e)
      by true = refl
      by false = tt

  pub declaration-fine : (Result : List Reached → Type 0) (at : ℕ) (xs : List SpecifierRow) (ds : List Declares) (e : Env) → AreSpecifiers s xs → Classless e → When s e (Holds s e)
      → ((g : Gathered) (e1 : Env) → Steps e e1 → Classless e1 → When s e1 (Holds s e1) → When s e1 (NamedFits g e1) → Fine s (λ rs f. Result rs) e1 (row.declaration_row at g ds e1))
      → Fine s (λ rs f. Result rs) e (declaration_of at xs ds e)
  declaration-fine Result at xs ds e k c h rows =
      words-then (λ rs f. Result rs) (alias_of xs ds) xs e _ k c h
      (λ ws later e1 g1 c1 h1 f. onward-fine s (λ rs f. Result rs) (λ rs f. Result rs) e1 (row.declaration_row at (gathered ws) ds e1) _ (rows (gathered ws) e1 g1 c1 h1 (λ v. gathered_named ws e1 (f v)))
      (λ rs e2 g2 c2 h2 r. still-fine s (λ rs f. Result rs) e2 (types_within (length e.types.types) e2) (λ q. Made rs q) (within-still (length e.types.types) e2) (made-fine s (λ rs f. Result rs) e2 rs c2 h2 r)))
