mod ReasonLaws
