use Rattle.cf_lower_constants.specs.Knowing.{fact_in}
use Rattle.cf_lower_types.specs.Bare.{sort_in}
use Rattle.cf_lowerable_starts.proofs.Conversions.{array_converts, class_converts, data_converts, function_converts, member_converts, named_converts, number_converts, pointer_converts, reference_converts, void_converts}
use Rattle.cf_lowerable_starts.proofs.values.converts.Goals as goal

pub returns-in-Integer : goal.returns-in-Integer
returns-in-Integer c =
    λ n.
    let tables = c.args.tables.now in
    number_converts (fact_in tables c.args.fact.now c.args.target.now n) tables c.args.ty c.form_of.result c.form_of.ensures.is _ c.has_number-number.result c.in-Integer.is
    (c.has_number-number.ensures tables c.args.target.now n)

pub returns-in-Enumeration : goal.returns-in-Enumeration
returns-in-Enumeration c =
    λ n.
    let tables = c.args.tables.now in
    named_converts (fact_in tables c.args.fact.now c.args.target.now n) tables c.args.ty c.form_of.result c.form_of.ensures.is _ c.has_number-named.result c.in-Enumeration.is
    (c.has_number-named.ensures tables c.args.target.now n)

pub returns-in_ok-is-in-Pointer : goal.returns-in_ok-is-in-Pointer
returns-in_ok-is-in-Pointer c =
    λ n.
    let tables = c.args.tables.now in
    pointer_converts (fact_in tables c.args.fact.now c.args.target.now n) tables c.args.ty c.form_of.result c.form_of.ensures.is c.in-Pointer.to
    (sort_in tables c.sort_to-sort.result) c.in_ok-is-in-Pointer.is' c.in-Pointer.is c.sort_to-sort.ensures (c.in_ok-is-in-Pointer.ensures n)

pub returns-in-Void : goal.returns-in-Void
returns-in-Void c =
    λ n.
    let tables = c.args.tables.now in
    void_converts (fact_in tables c.args.fact.now c.args.target.now n) tables c.args.ty c.form_of.result c.form_of.ensures.is c.in-Void.is

pub returns-in-Class : goal.returns-in-Class
returns-in-Class c =
    λ n.
    let tables = c.args.tables.now in
    class_converts (fact_in tables c.args.fact.now c.args.target.now n) tables c.args.ty c.form_of.result c.form_of.ensures.is _ c.in-Class.is

pub returns-in-Reference : goal.returns-in-Reference
returns-in-Reference c =
    λ n.
    let tables = c.args.tables.now in
    reference_converts (fact_in tables c.args.fact.now c.args.target.now n) tables c.args.ty c.form_of.result c.form_of.ensures.is _ c.in-Reference.is

pub returns-in-Array : goal.returns-in-Array
returns-in-Array c =
    λ n.
    let tables = c.args.tables.now in
    array_converts (fact_in tables c.args.fact.now c.args.target.now n) tables c.args.ty c.form_of.result c.form_of.ensures.is _ _ c.in-Array.is

pub returns-in-Function : goal.returns-in-Function
returns-in-Function c =
    λ n.
    let tables = c.args.tables.now in
    function_converts (fact_in tables c.args.fact.now c.args.target.now n) tables c.args.ty c.form_of.result c.form_of.ensures.is _ c.in-Function.is

pub returns-in-DataMember : goal.returns-in-DataMember
returns-in-DataMember c =
    λ n.
    let tables = c.args.tables.now in
    data_converts (fact_in tables c.args.fact.now c.args.target.now n) tables c.args.ty c.form_of.result c.form_of.ensures.is _ _ c.in-DataMember.is

pub returns-in-FunctionMember : goal.returns-in-FunctionMember
returns-in-FunctionMember c =
    λ n.
    let tables = c.args.tables.now in
    member_converts (fact_in tables c.args.fact.now c.args.target.now n) tables c.args.ty c.form_of.result c.form_of.ensures.is _ _ c.in-FunctionMember.is
