mod AsciiNames
mod BaseMade
mod BayNameLaws
mod FewArguments
mod FirstOthers
