-- The class table stays in order as classes and enumerations are declared.
use Rattle.std.proofs.Common.{ℕ, ◌<◌, List, [], ◌∷◌, ◌++◌, length, inl, inr, subst, sym, arith, length-append}
use Rattle.std.specs.Option.{ForSome}
use Rattle.cf_types.proofs.Places.{get-snoc}
use Rattle.cf_classes.specs.declared.label.Label.{Label}
use Rattle.cf_classes.specs.declared.class.ClassDef.{ClassDef}
use Rattle.cf_classes.specs.ClassTable.{ClassTable}
use Rattle.cf_classes.specs.Fit.{IsClassTable, Extends}

pub no_classes : IsClassTable (record { labels = []; enums = []; defined = [] })
no_classes = record {
  labels_in_order = λ i l h. cc;
  enums_inside = λ i l h. cc;
  in_order = λ i d h. cc;
}

module _ (t : ClassTable) (l : Label) (old : IsClassTable t) (outer : ForSome l.outer (λ o. o < length t.labels)) where
  abbrev more : ClassTable
  more = record { labels = t.labels ++ l ∷ []; enums = t.enums; defined = t.defined }

  extends_more : (before : List (ℕ × ClassDef)) (c : ℕ) (def : ClassDef) → Extends t before c def → Extends more before c def
  extends_more before c def h = record {
    declared = omega (arith, h.declared, length-append t.labels (l ∷ []));
    is_new = h.is_new;
    bases_defined = h.bases_defined;
    bases_once = h.bases_once;
    classes_known = λ k d w. omega (arith, h.classes_known k d w, length-append t.labels (l ∷ []));
  }

  pub with_label : IsClassTable more
  with_label = record {
    labels_in_order = λ i m h. elim (get-snoc t.labels l i m h) [
      | inl a ↦ old.labels_in_order i m a
      | inr b ↦ subst (λ n. ForSome m.outer (λ o. o < n)) (sym b.0) (subst (λ (x : Label). ForSome x.outer (λ o. o < length t.labels)) b.1 outer)
    ];
    enums_inside = λ i m h x e. omega (arith, old.enums_inside i m h x e, length-append t.labels (l ∷ []));
    in_order = λ i d h. extends_more _ d.0 d.1 (old.in_order i d h);
  }

  pub with_enum : IsClassTable (record { labels = t.labels; enums = t.enums ++ l ∷ []; defined = t.defined })
  with_enum = record {
    labels_in_order = old.labels_in_order;
    enums_inside = λ i m h. elim (get-snoc t.enums l i m h) [
      | inl a ↦ old.enums_inside i m a
      | inr b ↦ subst (λ (x : Label). ForSome x.outer (λ o. o < length t.labels)) b.1 outer
    ];
    in_order = λ i d h. let e = old.in_order i d h in record {
      declared = e.declared;
      is_new = e.is_new;
      bases_defined = e.bases_defined;
      bases_once = e.bases_once;
      classes_known = e.classes_known;
    };
  }
