mod FrameLaws
mod LimitLaws
mod NodeLaws
mod SumLaws
