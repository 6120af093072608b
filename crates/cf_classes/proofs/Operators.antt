-- Each operator's code is found again.
use Rattle.std.proofs.Common.{◌≡◌, ℕ, zero, suc, ◌-◌, ◌<◌, true, false, ◌==◌, nat_eq, List, [], ◌∷◌, ◌++◌, length, Some, slice_get, refl, ◌∙◌, arith}
use Rattle.std.specs.Prelude.{codes}
use Rattle.std.proofs.lemmas.Bool.Decides.{nat_tests}
use Rattle.std.specs.List.{starts_with}
use Rattle.cf_tokens.specs.Name.{has_double}
use Rattle.cf_classes.specs.LinkName.{Operator, operator_codes, item}
use Rattle.cf_classes.specs.Decode.{is_mark, called}
use Rattle.cf_classes.proofs.Each.{Each, each}

-- of the operator of this number: its code stands between marks, is no conversion's and has none of its own, and is this operator's alone
pub record OperatorCode (i : ℕ) (code : List ℕ) : Type 0 where
  pub mark : (r : List ℕ) → is_mark (95 ∷ 95 ∷ (code ++ r)) ≡ true
  pub no_conversion : (r : List ℕ) → starts_with nat_eq (code ++ r) (codes "op") ≡ false
  pub no_double : has_double code ≡ false
  pub is : called code ≡ Some (Operator i)

all_codes : Each OperatorCode 0 operator_codes
all_codes = (
  record { mark = λ r. refl; no_conversion = λ r. refl; no_double = refl; is = refl },
  (
    record { mark = λ r. refl; no_conversion = λ r. refl; no_double = refl; is = refl },
    (
      record { mark = λ r. refl; no_conversion = λ r. refl; no_double = refl; is = refl },
      (
        record { mark = λ r. refl; no_conversion = λ r. refl; no_double = refl; is = refl },
        (
          record { mark = λ r. refl; no_conversion = λ r. refl; no_double = refl; is = refl },
          (
            record { mark = λ r. refl; no_conversion = λ r. refl; no_double = refl; is = refl },
            (
              record { mark = λ r. refl; no_conversion = λ r. refl; no_double = refl; is = refl },
              (
                record { mark = λ r. refl; no_conversion = λ r. refl; no_double = refl; is = refl },
                (
                  record { mark = λ r. refl; no_conversion = λ r. refl; no_double = refl; is = refl },
                  (
                    record { mark = λ r. refl; no_conversion = λ r. refl; no_double = refl; is = refl },
                    (
                      record { mark = λ r. refl; no_conversion = λ r. refl; no_double = refl; is = refl },
                      (
                        record { mark = λ r. refl; no_conversion = λ r. refl; no_double = refl; is = refl },
                        (
                          record { mark = λ r. refl; no_conversion = λ r. refl; no_double = refl; is = refl },
                          (
                            record { mark = λ r. refl; no_conversion = λ r. refl; no_double = refl; is = refl },
                            (
                              record { mark = λ r. refl; no_conversion = λ r. refl; no_double = refl; is = refl },
                              (
                                record { mark = λ r. refl; no_conversion = λ r. refl; no_double = refl; is = refl },
                                (
                                  record { mark = λ r. refl; no_conversion = λ r. refl; no_double = refl; is = refl },
                                  (
                                    record { mark = λ r. refl; no_conversion = λ r. refl; no_double = refl; is = refl },
                                    (
                                      record { mark = λ r. refl; no_conversion = λ r. refl; no_double = refl; is = refl },
                                      (
                                        record { mark = λ r. refl; no_conversion = λ r. refl; no_double = refl; is = refl },
                                        (
                                          record { mark = λ r. refl; no_conversion = λ r. refl; no_double = refl; is = refl },
                                          (
                                            record { mark = λ r. refl; no_conversion = λ r. refl; no_double = refl; is = refl },
                                            (
                                              record { mark = λ r. refl; no_conversion = λ r. refl; no_double = refl; is = refl },
                                              (
                                                record { mark = λ r. refl; no_conversion = λ r. refl; no_double = refl; is = refl },
                                                (
                                                  record { mark = λ r. refl; no_conversion = λ r. refl; no_double = refl; is = refl },
                                                  (
                                                    record { mark = λ r. refl; no_conversion = λ r. refl; no_double = refl; is = refl },
                                                    (
                                                      record { mark = λ r. refl; no_conversion = λ r. refl; no_double = refl; is = refl },
                                                      (
                                                        record { mark = λ r. refl; no_conversion = λ r. refl; no_double = refl; is = refl },
                                                        (
                                                          record { mark = λ r. refl; no_conversion = λ r. refl; no_double = refl; is = refl },
                                                          (
                                                            record { mark = λ r. refl; no_conversion = λ r. refl; no_double = refl; is = refl },
                                                            (
                                                              record { mark = λ r. refl; no_conversion = λ r. refl; no_double = refl; is = refl },
                                                              (
                                                                record { mark = λ r. refl; no_conversion = λ r. refl; no_double = refl; is = refl },
                                                                (
                                                                  record { mark = λ r. refl; no_conversion = λ r. refl; no_double = refl; is = refl },
                                                                  (
                                                                    record { mark = λ r. refl; no_conversion = λ r. refl; no_double = refl; is = refl },
                                                                    (
                                                                      record { mark = λ r. refl; no_conversion = λ r. refl; no_double = refl; is = refl },
                                                                      (
                                                                        record { mark = λ r. refl; no_conversion = λ r. refl; no_double = refl; is = refl },
                                                                        (
                                                                          record { mark = λ r. refl; no_conversion = λ r. refl; no_double = refl; is = refl },
                                                                          (
                                                                            record { mark = λ r. refl; no_conversion = λ r. refl; no_double = refl; is = refl },
                                                                            tt,
                                                                          ),
                                                                        ),
                                                                      ),
                                                                    ),
                                                                  ),
                                                                ),
                                                              ),
                                                            ),
                                                          ),
                                                        ),
                                                      ),
                                                    ),
                                                  ),
                                                ),
                                              ),
                                            ),
                                          ),
                                        ),
                                      ),
                                    ),
                                  ),
                                ),
                              ),
                            ),
                          ),
                        ),
                      ),
                    ),
                  ),
                ),
              ),
            ),
          ),
        ),
      ),
    ),
  ),
)

item-get : (xs : List (List ℕ)) (i : ℕ) → i < length xs → slice_get xs i ≡ Some (item xs i)
item-get [] i h = absurd (omega arith)
item-get (x ∷ xs) zero h = refl
item-get (x ∷ xs) (suc i) h =
    let later : (suc i == 0) ≡ false = grind (arith, nat_tests) in
    let back : suc i - 1 ≡ i = omega arith in
    item-get xs i (omega arith) ∙ rw later (rw back refl)

pub operator_code : (i : ℕ) → i < 38 → OperatorCode i (item operator_codes i)
operator_code i h = each OperatorCode operator_codes all_codes i (item operator_codes i) (item-get operator_codes i h)
