-- What is known of the readings at a smaller depth, and the sets of words that may go on behind each phrase.
use Rattle.std.proofs.Common.{ℕ, zero, suc, List, [], ◌∷◌, ◌++◌}
use Rattle.cf_syntax.specs.declared.reading.DeclaratorKind.{DeclaratorKind}
use Rattle.cf_syntax.specs.NamesData.{Names}
use Rattle.cf_syntax.specs.Operators.{level, assigning}
use Rattle.cf_syntax.specs.Grammar.{Inside}
use Rattle.cf_syntax.specs.Reading.{Readers}
use Rattle.cf_syntax.proofs.Good.{Good}
use Rattle.cf_syntax.proofs.Keeps.{Keeps, codes_of}

-- behind an operand
abbrev pub suffixes : List ℕ
suffixes = 2 ∷ 0 ∷ 11 ∷ 13 ∷ 37 ∷ 38 ∷ []

-- the operators of the tightest levels, so many
abbrev pub operators : ℕ → List ℕ
operators zero = []
operators (suc n) = codes_of (level n) ++ operators n

abbrev pub behind_binary : ℕ → List ℕ
behind_binary n = operators n ++ suffixes

abbrev pub behind_condition : List ℕ
behind_condition = 10 ∷ behind_binary 11

abbrev pub behind_assign : List ℕ
behind_assign = codes_of assigning ++ behind_condition

abbrev pub behind_commas : List ℕ
behind_commas = 7 ∷ behind_assign

-- behind a declarator, with a name or without
abbrev pub behind_declarator : List ℕ
behind_declarator = 20 ∷ 23 ∷ 128 ∷ 9 ∷ 16 ∷ 89 ∷ 0 ∷ 2 ∷ []

abbrev pub behind_params : List ℕ
behind_params =
    7 ∷ 28 ∷ 20 ∷ 23 ∷ 128 ∷ 9 ∷ 16 ∷ 89 ∷ 0 ∷ 2 ∷ 65 ∷ 93 ∷ 98 ∷ 79 ∷ 85 ∷ 108 ∷ 82 ∷ 105 ∷ 71 ∷ 69 ∷ 95 ∷ 86 ∷ 87 ∷ 96 ∷ 107 ∷ 109 ∷ 70 ∷ 99 ∷ 78 ∷ behind_assign

pub record Inner («in» : Inside) (r : Readers) : Type 0 where
  pub commas : (names : Names) → Good behind_commas (r.commas names) («in».commas names)
  pub assign : (names : Names) → Good behind_assign (r.assign names) («in».assign names)
  pub condition : (names : Names) → Good behind_condition (r.condition names) («in».condition names)
  pub cast : (names : Names) → Good suffixes (r.cast names) («in».cast names)
  pub unary : (names : Names) → Good suffixes (r.unary names) («in».unary names)
  pub type_id : (names : Names) → Good behind_declarator (r.type_id names) («in».type_id names)
  pub params : (names : Names) → Good behind_params (r.params names) («in».params names)
  pub declarator : (k : DeclaratorKind) (names : Names) → Good behind_declarator (r.declarator k names) («in».declarator k names)
  pub keeps_commas : (names : Names) → Keeps («in».commas names)
  pub keeps_assign : (names : Names) → Keeps («in».assign names)
  pub keeps_condition : (names : Names) → Keeps («in».condition names)
  pub keeps_cast : (names : Names) → Keeps («in».cast names)
  pub keeps_unary : (names : Names) → Keeps («in».unary names)
  pub keeps_type_id : (names : Names) → Keeps («in».type_id names)
  pub keeps_params : (names : Names) → Keeps («in».params names)
  pub keeps_declarator : (k : DeclaratorKind) (names : Names) → Keeps («in».declarator k names)
