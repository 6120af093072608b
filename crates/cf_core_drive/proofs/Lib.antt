mod Bytes
mod GoingLaws
mod StepLaws
