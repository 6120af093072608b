pub mod CodeLaws
pub mod EnumLaws
pub mod FunctionLaws
pub mod ObjectLaws
pub mod ParamLaws
pub mod TextLaws
