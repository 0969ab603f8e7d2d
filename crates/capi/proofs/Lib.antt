pub mod CallLaws
pub mod Numbered
pub mod TableNumbered
pub mod SoundNumbered
pub mod ScalingNumbered
pub mod TextNumbered
pub mod FormNumbered
pub mod WriteNumbered
